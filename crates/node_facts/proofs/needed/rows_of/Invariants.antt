-- the rows of the operations so far
use Rattle.node_facts.specs.Live.{AreRowsTo}
use Rattle.node_facts.proofs.needed.rows_of.Given as goal

abbrev pub invariant-loop-number : goal.invariant-loop-number
invariant-loop-number l = AreRowsTo l.number-index l.train l.order l.places l.demands l.sums l.rows
