use Rattle.std.proofs.Common.{◌≡◌, drop}
use Rattle.disp_model.specs.Plan.{start_of}
use Rattle.dispatch_reports.proofs.numbers.start_of.Given as goal

-- what is left, from here, gives the whole
abbrev pub invariant-loop-event : goal.invariant-loop-event
invariant-loop-event l =
    start_of (drop l.event-index l.events) l.train l.operation ≡ start_of l.events l.train l.operation
