-- arcs lead from each operation so far to the next
use Rattle.std.proofs.Common.{◌≡◌, ℕ, ◌+◌, ◌<◌, List}
use Rattle.std.specs.Prelude.{slice_get, Some}
use Rattle.disp_model.specs.declared.train.Op.{Op}
use Rattle.disp_model.specs.declared.fixing.Fixing.{Fixing}
use Rattle.disp_model.specs.Node.{node_at}
use Rattle.disp_model.specs.Arcs.{HasArc}
use Rattle.node_facts.specs.Orders.{AreKnown}
use Rattle.tree_checker.proofs.lists.are_joined.Given as goal

abbrev pub invariant-loop-place : goal.invariant-loop-place
invariant-loop-place l =
    (fixings : List Fixing) → AreKnown (node_at l.problem fixings l.decisions) l.trains
    → (i : ℕ) (u v : Op) → i + 1 < l.place → slice_get l.walk i ≡ Some u → slice_get l.walk (i + 1) ≡ Some v → HasArc (node_at l.problem fixings l.decisions) u v
