-- Leaves that show of a node that it is dead, and a decision taken back.
use Rattle.std.proofs.Common.{◌≡◌, ◌∙◌, ℕ, ◌-◌, List, [], ◌∷◌, ◌++◌, length, take, inl, inr, sym, ap, subst, arith}
use Rattle.std.proofs.lemmas.List.{length-append, take-append-le, take_all}
use Rattle.disp_model.specs.declared.train.Op.{Op}
use Rattle.disp_model.specs.declared.decision.Decision.{Decision}
use Rattle.disp_model.specs.declared.tree.Leaf.TheVariants.{NoRoute, Cycle, Late}
use Rattle.disp_model.specs.Node.{Node, node_at, with_decision}
use Rattle.disp_model.specs.Routes.{IsForced}
use Rattle.disp_model.specs.Walks.{upper_of, IsLongest, IsCycle}
use Rattle.event_arcs.specs.Placed.{IsFirstWithout}
use Rattle.event_graph.specs.Late.{IsLateAt}
use Rattle.event_graph.specs.Graphs.{without_last_decision}
use Rattle.event_graph.proofs.Naming.{cycle_there}
use Rattle.event_graph.proofs.Lateness.{longest_forced}
use Rattle.cost_bound.specs.Bounds.{IsLongWalk}
use Rattle.cost_bound.proofs.Bounding.{ops_fit}
use Rattle.cost_bound.proofs.Walking.{walk_there}
use Rattle.node_leaves.specs.Shown.{IsDeadLeaf}

same_longest : (node : Node) (o : Op) (s t : ℕ) → IsLongest node o s → IsLongest node o t → s ≡ t
same_longest node o s t one other =
    let a = one.reached in
    let b = other.reached in
    omega (arith, other.none_longer a.0 s a.1 a.2 a.3, one.none_longer b.0 t b.1 b.2 b.3)

pub late_is_forced : (node : Node) (o : Op) → IsLateAt node o → IsForced node o
late_is_forced node o is = subst (IsForced node) is.operation (longest_forced node is.late.operation is.late.total is.late.longest)

pub late_leaf : (node : Node) (o : Op) (walk : List Op) → IsLateAt node o → IsLongWalk node o walk → IsDeadLeaf node (Late walk)
late_leaf node o walk is long =
    let late = is.late in
    let same : late.total ≡ long.total = same_longest node o late.total long.total (subst (λ (p : Op). IsLongest node p late.total) is.operation late.longest) long.longest in
    record {
      dead = inr (inr late);
      says = tt;
      holds = λ verdict. inr (record {
        end = o;
        ends = long.ends;
        total = long.total;
        is_walk = long.is_walk;
        upper = late.upper;
        upper_is = ap (λ (p : Op). upper_of node.problem node.fixings p) (sym is.operation) ∙ late.upper_is;
        late = omega (arith, late.late, same);
      });
      fits = ops_fit node.problem walk (walk_there node walk long.total long.is_walk);
    }

pub no_route_leaf : (node : Node) (t : ℕ) → IsFirstWithout node t → IsDeadLeaf node NoRoute
no_route_leaf node t is = record { dead = inl (t, is.there, is.none); says = tt; holds = λ verdict. inl (t, is.there, is.none); fits = tt }

pub cycle_leaf : (node : Node) (nodes : List Op) → IsCycle node nodes → IsDeadLeaf node (Cycle nodes)
cycle_leaf node nodes cycle = record { dead = inr (inl (nodes, cycle)); says = tt; holds = λ verdict. inr cycle; fits = ops_fit node.problem nodes (cycle_there node nodes cycle) }

-- without the last decision the node is as before it
pub taken_back : (node : Node) (d : Decision) → without_last_decision (with_decision node d) ≡ node
taken_back node d =
    ap (λ (ds : List Decision). node_at node.problem node.fixings ds)
    (ap (λ (n : ℕ). take n (node.decisions ++ d ∷ [])) (count node.decisions) ∙ take-append-le (length node.decisions) node.decisions (d ∷ []) (omega arith) ∙ take_all (length node.decisions) node.decisions (omega arith))
  where
    count : (ds : List Decision) → length (ds ++ d ∷ []) - 1 ≡ length ds
    count ds = omega (arith, length-append ds (d ∷ []))
