-- Walks that show what components add, one after the other.
use Rattle.std.proofs.Common.{◌≡◌, ℕ, ◌+◌, ◌<◌, ◌≤◌, List, [], ◌∷◌, ◌++◌, take, get_or, Some, refl, sym, ap, subst, arith, inl, inr}
use Rattle.std.specs.Prelude.{slice_get, All}
use Rattle.std.proofs.lemmas.Option.{slice_get_within, get_or_from_slice_get}
use Rattle.std.proofs.lemmas.List.{length-append}
use Rattle.std.proofs.lemmas.List.Elements.{All-push, All-weaker}
use Rattle.disp_model.specs.declared.train.Op.{Op}
use Rattle.disp_model.specs.declared.train.Component.{Component}
use Rattle.disp_model.specs.declared.problem.Problem.{Problem}
use Rattle.disp_model.specs.declared.tree.ComponentWalk.{ComponentWalk}
use Rattle.disp_model.specs.declared.tree.Leaf.TheVariants.{Costs}
use Rattle.disp_model.specs.declared.tree.Verdict.TheVariants.{Optimal}
use Rattle.disp_model.specs.WellFormed.{horizon, most_of}
use Rattle.disp_model.specs.Cost.{cost_at}
use Rattle.disp_model.specs.Node.{Node}
use Rattle.disp_model.specs.Nodes.{component_op, AddsForced, ForcedAddUp}
use Rattle.disp_model.specs.Trees.{WalkCosts, WalksCost, HaveDistinct, LeafHolds, FitsOp, FitsLeaf}
use Rattle.disp_laws.proofs.Numbered.{below_count}
use Rattle.disp_laws.proofs.LongestWalks.{adds_same}
use Rattle.train_orders.proofs.Places.{get_push_cases}
use Rattle.event_windows.specs.Operations.{HasOperation}
use Rattle.cost_bound.specs.declared.arrival.Arrival.{Arrival}
use Rattle.cost_bound.specs.declared.shown.Bound.{Bound}
use Rattle.cost_bound.specs.Arrivals.{IsArrival}
use Rattle.cost_bound.specs.Shortened.{NamesEnds}
use Rattle.cost_bound.specs.Bounds.{IsLongWalk, AddsCost, AreInOrder, IsBoundTo}
use Rattle.cost_bound.proofs.Summing.{add_up_more, most_more}
use Rattle.cost_bound.proofs.Walking.{walk_there}

-- ---- one walk more

pub costs_end : (node : Node) (walks : List ComponentWalk) (w : ComponentWalk) (sum cost : ℕ) → WalksCost node walks sum → WalkCosts node w cost → WalksCost node (walks ++ w ∷ []) (sum + cost)
costs_end node [] w sum cost is costs = (cost, 0, costs, refl, omega (arith, is))
costs_end node (v ∷ walks) w sum cost is costs = (is.0, is.1 + cost, is.2, costs_end node walks w is.1 cost is.3 costs, omega (arith, is.4))

below_at : (walks : List ComponentWalk) (count i : ℕ) (v : ComponentWalk) → All (λ w. w.component < count) walks → slice_get walks i ≡ Some v → v.component < count
below_at walks count i v below at = subst (λ (w : ComponentWalk). w.component < count) (get_or_from_slice_get walks i v v at) (below i v (slice_get_within walks i v at))

pub order_end : (walks : List ComponentWalk) (w : ComponentWalk) (count : ℕ) → AreInOrder walks → All (λ v. v.component < count) walks → w.component ≡ count → AreInOrder (walks ++ w ∷ [])
order_end walks w count order below is i j v x lt one other = elim (get_push_cases walks w x j other) [
  | inl there ↦ elim (get_push_cases walks w v i one) [
    | inl here ↦ order i j v x lt here there
    | inr last ↦ absurd (omega (arith, lt, last.0, slice_get_within walks j x there))
  ]
  | inr last ↦ elim (get_push_cases walks w v i one) [
    | inl here ↦ let own = ap (λ (y : ComponentWalk). y.component) last.1 in omega (arith, below_at walks count i v below here, own, is)
    | inr first ↦ absurd (omega (arith, lt, first.0, last.0))
  ]
]

pub distinct_by_order : (walks : List ComponentWalk) → AreInOrder walks → HaveDistinct walks
distinct_by_order walks order i j v w lt one other same = omega (arith, order i j v w lt one other, same)

-- ---- one component more

at_place : (node : Node) (place : ℕ) (c : Component) (cost : ℕ) → slice_get node.problem.components place ≡ Some c → AddsForced node c cost → AddsForced node (get_or node.problem.components place c) cost
at_place node place c cost at adds = subst (λ (d : Component). AddsForced node d cost) (sym (get_or_from_slice_get node.problem.components place c c at)) adds

most_at : (node : Node) (place : ℕ) (c : Component) (cost : ℕ) → slice_get node.problem.components place ≡ Some c → cost ≤ most_of (horizon node.problem.trains) c → cost ≤ most_of (horizon node.problem.trains) (get_or node.problem.components place c)
most_at node place c cost at most = subst (λ (d : Component). cost ≤ most_of (horizon node.problem.trains) d) (sym (get_or_from_slice_get node.problem.components place c c at)) most

pub bound_same : (node : Node) (place : ℕ) (c : Component) (bound : Bound) → slice_get node.problem.components place ≡ Some c → IsBoundTo node place bound → AddsForced node c 0 → IsBoundTo node (place + 1) bound
bound_same node place c bound at before adds =
    let lt = slice_get_within node.problem.components place c at in
    let components = node.problem.components in
    let same : bound.cost + 0 ≡ bound.cost = omega arith in
    record {
      there = omega (arith, lt);
      adds = subst (ForcedAddUp node (take (place + 1) components)) same (add_up_more node components place c bound.cost 0 lt before.adds (at_place node place c 0 at adds));
      most = omega (arith, most_more (horizon node.problem.trains) components place c bound.cost 0 lt before.most (omega arith));
      costs = before.costs;
      order = before.order;
      below = All-weaker (λ w. w.component < place) (λ w. w.component < place + 1) (λ w small. omega (arith, small)) bound.walks before.below;
      each = before.each;
      long = omega (arith, before.long);
    }

pub bound_more : (node : Node) (place : ℕ) (c : Component) (bound : Bound) (arrival : Arrival) (w : ComponentWalk) (walks : List ComponentWalk) → slice_get node.problem.components place ≡ Some c → IsBoundTo node place bound
    → IsArrival node c arrival → (arrival.cost ≡ 0 → ⊥) → w.component ≡ place → IsLongWalk node (component_op c) w.walk → NamesEnds w.walk → walks ≡ bound.walks ++ w ∷ []
    → IsBoundTo node (place + 1) (record { cost = bound.cost + arrival.cost; walks = walks })
bound_more node place c bound arrival w walks at before arrives some is long short pushed =
    let lt = slice_get_within node.problem.components place c at in
    let components = node.problem.components in
    let own : WalkCosts node w arrival.cost = record {
      component = c;
      there = subst (λ (n : ℕ). slice_get components n ≡ Some c) (sym is) at;
      ends = long.ends;
      total = long.total;
      is_walk = long.is_walk;
      cost_is = adds_same node c arrival.cost (cost_at c long.total) (inl (arrives.total, arrives.forced, arrives.longest, arrives.cost_is)) (inl (long.total, arrives.forced, long.longest, refl));
    } in
    let adding : AddsCost node w = record { cost = arrival.cost; costs = own; some = omega (arith, some); short = short } in
    rw pushed (record {
      there = omega (arith, lt);
      adds = add_up_more node components place c bound.cost arrival.cost lt before.adds (at_place node place c arrival.cost at (inl (arrives.total, arrives.forced, arrives.longest, arrives.cost_is)));
      most = most_more (horizon node.problem.trains) components place c bound.cost arrival.cost lt before.most (most_at node place c arrival.cost at arrives.most);
      costs = costs_end node bound.walks w bound.cost arrival.cost before.costs own;
      order = order_end bound.walks w place before.order before.below is;
      below = All-push (λ v. v.component < place + 1) bound.walks w (All-weaker (λ v. v.component < place) (λ v. v.component < place + 1) (λ v small. omega (arith, small)) bound.walks before.below) (omega (arith, is));
      each = All-push (AddsCost node) bound.walks w before.each adding;
      long = omega (arith, before.long, length-append bound.walks (w ∷ []));
    })

pub bound_reaches : (node : Node) (count : ℕ) (bound : Bound) (least : ℕ) → IsBoundTo node count bound → least ≤ bound.cost → LeafHolds node (Optimal least) (Costs bound.walks)
bound_reaches node count bound least is enough = inr (record { distinct = distinct_by_order bound.walks is.order; sum = bound.cost; sum_is = is.costs; enough = enough })

-- ---- what the walks name fits

fits_op : (problem : Problem) (o : Op) → HasOperation problem o → FitsOp o
fits_op problem o op = (omega (arith, op.train, problem.well_formed.trains_fit), omega (arith, below_count problem o op.train op.op, problem.well_formed.operations_fit))

-- operations of a problem have numbers that can be written
pub ops_fit : (problem : Problem) (ops : List Op) → All (HasOperation problem) ops → All FitsOp ops
ops_fit problem ops there = All-weaker (HasOperation problem) FitsOp (fits_op problem) ops there

pub bound_fits : (node : Node) (count : ℕ) (bound : Bound) → IsBoundTo node count bound → FitsLeaf (Costs bound.walks)
bound_fits node count bound is = (
  omega (arith, is.long, is.there, node.problem.well_formed.components_fit),
  λ k w lt. (
    omega (arith, is.below k w lt, is.there, node.problem.well_formed.components_fit),
    let costs = (is.each k w lt).costs in ops_fit node.problem _ (walk_there node _ costs.total costs.is_walk),
  ),
)
