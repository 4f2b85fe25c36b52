-- the ends so far, before those of what is left
use Rattle.cost_bound.proofs.Passing.{ArePassed}
use Rattle.cost_bound.proofs.ends.ends_behind.Given as goal

abbrev pub invariant-loop-number : goal.invariant-loop-number
invariant-loop-number l = ArePassed l.graph.problem l.first l.rest l.before l.op l.number-index l.ends
