-- the least cost of the row's operations so far
use Rattle.std.proofs.Common.{take}
use Rattle.route_marks.specs.Marks.{IsLowest}
use Rattle.share_bound.proofs.least.lowest.Given as goal

abbrev pub invariant-loop-next : goal.invariant-loop-next
invariant-loop-next l = IsLowest l.costs l.most (take l.next-index l.row) l.least
