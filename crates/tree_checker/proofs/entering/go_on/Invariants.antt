-- what the steps so far enter
use Rattle.std.proofs.Common.{take}
use Rattle.tree_checker.specs.TrainCosts.{EntersNexts}
use Rattle.tree_checker.proofs.entering.go_on.Given as goal

abbrev pub invariant-loop-next : goal.invariant-loop-next
invariant-loop-next l = EntersNexts l.known.places.items l.known.demands.items l.op (take l.next-index l.nexts) l.time l.fn.entered.items l.entered.items
