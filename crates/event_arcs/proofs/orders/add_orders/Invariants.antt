-- the orders so far have their arcs
use Rattle.std.proofs.Common.{List, take}
use Rattle.disp_model.specs.declared.fixing.Fixing.{Fixing}
use Rattle.disp_model.specs.Node.{node_at}
use Rattle.event_arcs.specs.Placed.{ArePlaced}
use Rattle.event_arcs.specs.Ordering.{AddsOrders}
use Rattle.event_arcs.proofs.orders.add_orders.Given as goal

abbrev pub invariant-loop-decision : goal.invariant-loop-decision
invariant-loop-decision l = (fixings : List Fixing) → ArePlaced (node_at l.problem fixings l.decisions) l.each
    → AddsOrders (node_at l.problem fixings l.decisions) (take l.decision-index l.decisions) l.initial.arcs.items l.arcs.items
