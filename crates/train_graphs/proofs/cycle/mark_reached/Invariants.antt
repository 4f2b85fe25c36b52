-- what is marked is reached, and what is not marked and waits gets less
use Rattle.std.proofs.Common.{◌+◌, length}
use Rattle.train_graphs.specs.Reach.{AreMarksReached, unmarked}
use Rattle.train_graphs.proofs.cycle.mark_reached.Given as goal

abbrev pub invariant-loop-o : goal.invariant-loop-o
invariant-loop-o l = AreMarksReached l.train l.start l.marks l.ahead.items

abbrev pub decreases-loop-o : goal.decreases-loop-o
decreases-loop-o l = unmarked l.marks + length l.ahead.items
