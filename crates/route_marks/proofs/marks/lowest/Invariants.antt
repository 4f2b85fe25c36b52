-- the least place of the row's operations so far
use Rattle.std.proofs.Common.{take}
use Rattle.route_marks.specs.Marks.{IsLowest}
use Rattle.route_marks.proofs.marks.lowest.Given as goal

abbrev pub invariant-loop-next : goal.invariant-loop-next
invariant-loop-next l = IsLowest l.places l.reach (take l.next-index l.row) l.least
