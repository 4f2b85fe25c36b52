use Rattle.std.proofs.Common.{◌≡◌, drop}
use Rattle.dispatch_reports.specs.Tables.{start_time}
use Rattle.dispatch_reports.proofs.numbers.start_time.Given as goal

-- what is left, from here, gives the whole
abbrev pub invariant-loop-event : goal.invariant-loop-event
invariant-loop-event l =
    start_time l.train (drop l.event-index l.events) ≡ start_time l.train l.events
