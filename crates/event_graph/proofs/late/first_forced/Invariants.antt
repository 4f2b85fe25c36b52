use Rattle.std.proofs.Common.{◌≡◌, ℕ, ◌<◌, List, Some}
use Rattle.std.specs.Prelude.{slice_get}
use Rattle.disp_model.specs.declared.train.Op.{Op}
use Rattle.disp_model.specs.declared.fixing.Fixing.{Fixing}
use Rattle.disp_model.specs.declared.decision.Decision.{Decision}
use Rattle.disp_model.specs.Node.{node_at}
use Rattle.disp_model.specs.Routes.{IsForced}
use Rattle.event_arcs.specs.Placed.{ArePlaced}
use Rattle.event_graph.proofs.late.first_forced.Given as goal

abbrev pub invariant-loop-op : goal.invariant-loop-op
invariant-loop-op l = (fixings : List Fixing) (decisions : List Decision) → ArePlaced (node_at l.problem fixings decisions) l.each → (k : ℕ) (o : Op) → k < l.op-index → slice_get l.ops k ≡ Some o → IsForced (node_at l.problem fixings decisions) o → ⊥
