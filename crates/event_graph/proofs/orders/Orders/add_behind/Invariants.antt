use Rattle.std.proofs.Common.{List}
use Rattle.disp_model.specs.declared.fixing.Fixing.{Fixing}
use Rattle.disp_model.specs.declared.decision.Decision.{Decision}
use Rattle.disp_model.specs.Node.{node_at}
use Rattle.event_arcs.specs.Placed.{ArePlaced}
use Rattle.event_graph.specs.Pairs.{IsPlaceOf, AddsFrom}
use Rattle.event_graph.proofs.orders.Orders.add_behind.Given as goal

abbrev pub invariant-loop-place : goal.invariant-loop-place
invariant-loop-place l =
    IsPlaceOf l.self-inside.by_first.keys l.number l.place
    × ((fixings : List Fixing) (decisions : List Decision) → ArePlaced (node_at l.problem fixings decisions) l.each
    → AddsFrom (λ p. p.from) l.number (node_at l.problem fixings decisions) l.self.pairs l.place l.initial.arcs.items l.arcs.items)

abbrev pub decreases-loop-place : goal.decreases-loop-place
decreases-loop-place l = l.place
