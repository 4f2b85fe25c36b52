use Rattle.std.proofs.Common.{◌≡◌, drop, cond}
use Rattle.std.specs.Prelude.{slice_get}
use Rattle.disp_model.specs.Plan.{operations_of}
use Rattle.disp_model.specs.Fixing.{after}
use Rattle.solution_verifier.proofs.fixings.next_after.Given as goal

abbrev pub invariant-loop-event : goal.invariant-loop-event
invariant-loop-event l =
    let left = operations_of l.train (drop l.event-index l.events) in
    after l.operation (operations_of l.train l.events) ≡ cond l.reached (slice_get left 0) (after l.operation left)
