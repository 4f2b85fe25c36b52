use Rattle.std.proofs.Common.{◌≡◌, ℕ, Option, map, take}
use Rattle.disp_model.specs.Node.{with_decision}
use Rattle.share_bound.specs.Known.{HoldFor}
use Rattle.tree_growth.specs.Grown.{GrowsBelow, branches}
use Rattle.tree_dives.proofs.leaves.leaves_of.Given as goal

abbrev pub invariant-loop-decision : goal.invariant-loop-decision
invariant-loop-decision l = record {
  same : l.graph ≡ l.initial.graph;
  known : HoldFor l.initial.graph l.known;
  grows : (best : Option ℕ) → GrowsBelow l.reckoning.rule best (map (with_decision l.initial.graph) (take l.decision-index l.decisions)) l.grown.nodes.items l.grown.bounds.items;
  leaves : branches l.grown.nodes.items ≡ 0;
}
