use Rattle.std.proofs.Common.{◌≡◌, take}
use Rattle.disp_model.specs.Node.{node_at}
use Rattle.share_bound.specs.Known.{HoldFor}
use Rattle.search_workers.proofs.walk.go_to.Given as goal

abbrev pub invariant-loop-place : goal.invariant-loop-place
invariant-loop-place l = (l.graph ≡ node_at l.initial.graph.problem l.initial.graph.fixings (take l.place l.decisions)) × HoldFor l.graph l.known
