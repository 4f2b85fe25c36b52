use Rattle.std.proofs.Common.{◌≡◌, drop}
use Rattle.disp_model.specs.Plan.{start_of}
use Rattle.solution_verifier.proofs.fixings.start_of.Given as goal

abbrev pub invariant-loop-event : goal.invariant-loop-event
invariant-loop-event l = start_of l.events l.train l.operation ≡ start_of (drop l.event-index l.events) l.train l.operation
