-- the lowers of the operations so far
use Rattle.tree_checker.specs.TrainCosts.{AreLowers}
use Rattle.tree_checker.proofs.landings.lowers_of.Given as goal

abbrev pub invariant-loop-op : goal.invariant-loop-op
invariant-loop-op l = AreLowers l.problem l.fixings l.train l.op l.bases.items
