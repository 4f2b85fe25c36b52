-- A graph on its way to a node, one decision after the other.
use Rattle.std.proofs.Common.{◌≡◌, ◌∙◌, ℕ, ◌+◌, ◌<◌, List, ◌++◌, length, take, drop, get_or, sym, ap, subst}
use Rattle.std.proofs.lemmas.List.{take_more, take-append-drop}
use Rattle.disp_model.specs.declared.decision.Decision.{Decision}
use Rattle.disp_model.specs.declared.fixing.Fixing.{Fixing}
use Rattle.disp_model.specs.declared.problem.Problem.{Problem}
use Rattle.disp_model.specs.declared.tree.Leaf.{Leaf as TreeLeaf}
use Rattle.disp_model.specs.Node.{Node, node_at, with_decision}
use Rattle.deeper_nodes.proofs.Tighter.{more_decided}
use Rattle.deeper_nodes.proofs.Dying.{dead_stays}
use Rattle.deeper_nodes.proofs.Staying.{leaf_stays}
use Rattle.node_leaves.specs.Shown.{IsDeadLeaf}

-- a leaf that shows that a node is dead shows it of the nodes below
pub dead_below : (problem : Problem) (fixings : List Fixing) (decisions more : List Decision)
    (leaf : TreeLeaf)
    → IsDeadLeaf (node_at problem fixings decisions) leaf
    → IsDeadLeaf (node_at problem fixings (decisions ++ more)) leaf
dead_below problem fixings decisions more leaf is =
    let tighter = more_decided (node_at problem fixings decisions) more in
    record {
      dead = dead_stays (node_at problem fixings decisions) fixings (decisions ++ more) tighter is.dead;
      says = is.says;
      holds = λ verdict. leaf_stays (node_at problem fixings decisions) fixings (decisions ++ more) verdict leaf tighter (is.holds verdict);
      fits = is.fits;
    }

-- where the graph stands at the first so many of the decisions
module _ (problem : Problem) (fixings : List Fixing) (decisions : List Decision) (k : ℕ) (d : Decision) (lt : k < length decisions) (graph : Node) (at : graph ≡ node_at problem fixings (take k decisions)) where
  further : with_decision graph (get_or decisions k d) ≡ node_at problem fixings (take (k + 1) decisions)
  further = ap (λ (n : Node). with_decision n (get_or decisions k d)) at ∙ ap (λ (ds : List Decision). node_at problem fixings ds) (sym (take_more decisions k d lt))

  -- it is one further with the next
  pub one_further : (after : Node) → after ≡ with_decision graph (get_or decisions k d)
      → after ≡ node_at problem fixings (take (k + 1) decisions)
  one_further after is = is ∙ further

  -- where the next is refused, the node of them all is dead
  pub refused_further : (leaf : TreeLeaf)
      → IsDeadLeaf (with_decision graph (get_or decisions k d)) leaf
      → IsDeadLeaf (node_at problem fixings decisions) leaf
  refused_further leaf is =
      subst (λ (ds : List Decision). IsDeadLeaf (node_at problem fixings ds) leaf) (take-append-drop (k + 1) decisions)
      (dead_below problem fixings (take (k + 1) decisions) (drop (k + 1) decisions) leaf (subst (λ (n : Node). IsDeadLeaf n leaf) further is))
