-- the sums of the row's operations so far are lowered
use Rattle.std.proofs.Common.{take}
use Rattle.route_marks.specs.Marks.{Relaxes}
use Rattle.route_marks.proofs.marks.relax.Given as goal

abbrev pub invariant-loop-next : goal.invariant-loop-next
invariant-loop-next l = Relaxes (take l.next-index l.row) l.through l.initial.sums.items l.sums.items
