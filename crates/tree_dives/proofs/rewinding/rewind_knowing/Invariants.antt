use Rattle.std.proofs.Common.{◌≡◌, ◌-◌, ◌≤◌, length, take}
use Rattle.disp_model.specs.Node.{node_at}
use Rattle.share_bound.specs.Known.{HoldFor}
use Rattle.tree_dives.proofs.rewinding.rewind_knowing.Given as goal

abbrev pub invariant-loop : goal.invariant-loop
invariant-loop l = (l.depth ≤ l.counter) × (l.graph ≡ node_at l.initial.graph.problem l.initial.graph.fixings (take (length l.initial.graph.decisions - (l.counter - l.depth)) l.initial.graph.decisions)) × HoldFor l.graph l.known
