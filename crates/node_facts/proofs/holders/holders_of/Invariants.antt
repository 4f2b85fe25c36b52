-- the holders among the operations so far
use Rattle.node_facts.proofs.Holding.{AreHeldTo}
use Rattle.node_facts.proofs.holders.holders_of.Given as goal

abbrev pub invariant-loop-op : goal.invariant-loop-op
invariant-loop-op l = AreHeldTo l.op l.train l.places l.demands l.sums l.needed l.holders.items
