-- the numbers so far are visited
use Rattle.std.proofs.Common.{take}
use Rattle.train_graphs.specs.Reach.{Visits}
use Rattle.train_graphs.proofs.cycle.visit.Given as goal

abbrev pub invariant-loop-number : goal.invariant-loop-number
invariant-loop-number l = Visits (take l.number-index l.numbers) l.fn.marks l.marks l.fn.ahead.items l.ahead.items
