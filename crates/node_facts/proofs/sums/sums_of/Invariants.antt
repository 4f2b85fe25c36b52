-- the least sums of the operations so far
use Rattle.node_facts.proofs.Summing.{AreSummed}
use Rattle.node_facts.proofs.sums.sums_of.Given as goal

abbrev pub invariant-loop-number : goal.invariant-loop-number
invariant-loop-number l = AreSummed l.train l.order l.places l.demands l.number-index l.sums.items
