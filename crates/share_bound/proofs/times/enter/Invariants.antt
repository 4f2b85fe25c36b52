-- the operations of the row so far are entered
use Rattle.std.proofs.Common.{take}
use Rattle.route_marks.specs.Marks.{Relaxes}
use Rattle.share_bound.proofs.times.enter.Given as goal

abbrev pub invariant-loop-next : goal.invariant-loop-next
invariant-loop-next l = Relaxes (take l.next-index l.row) l.time l.initial.times.items l.times.items
