use Rattle.event_graph.specs.Pairs.{IsPlaceOf, HasNoOrderFrom}
use Rattle.event_graph.proofs.orders.Orders.has.Given as goal

abbrev pub invariant-loop-place : goal.invariant-loop-place
invariant-loop-place l = IsPlaceOf l.self-inside.by_first.keys l.from l.place × HasNoOrderFrom l.self.pairs l.place l.from l.first l.second

abbrev pub decreases-loop-place : goal.decreases-loop-place
decreases-loop-place l = l.place
