use Rattle.event_graph.specs.Late.{AreClosedTo}
use Rattle.event_graph.proofs.opening.closed.Given as goal

abbrev pub invariant-loop-n : goal.invariant-loop-n
invariant-loop-n l = AreClosedTo l.problem l.fixings l.n l.closed.items
