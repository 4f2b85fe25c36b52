-- what the last so many fixings say
use Rattle.std.proofs.Common.{◌-◌, length, drop}
use Rattle.event_windows.specs.Windows.{AreTimesOf}
use Rattle.event_windows.proofs.times.note_all.Given as goal

abbrev pub invariant-loop-fixing : goal.invariant-loop-fixing
invariant-loop-fixing l = AreTimesOf l.problem (drop (length l.fixings - length l.yielded) l.fixings) l.times
