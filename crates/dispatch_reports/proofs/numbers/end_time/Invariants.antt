use Rattle.std.proofs.Common.{◌≡◌, drop}
use Rattle.dispatch_reports.specs.Tables.{end_from, end_time}
use Rattle.dispatch_reports.proofs.numbers.end_time.Given as goal

-- what is left, from here, gives the whole
abbrev pub invariant-loop-event : goal.invariant-loop-event
invariant-loop-event l =
    end_from l.problem l.train l.end (drop l.event-index l.events) ≡ end_time l.problem l.train l.events
