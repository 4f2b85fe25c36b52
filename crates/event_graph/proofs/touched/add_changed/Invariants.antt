use Rattle.std.proofs.Common.{List}
use Rattle.disp_model.specs.declared.fixing.Fixing.{Fixing}
use Rattle.disp_model.specs.declared.decision.Decision.{Decision}
use Rattle.disp_model.specs.Node.{Node, node_at}
use Rattle.event_arcs.specs.Placed.{IsPlaced, ArePlaced}
use Rattle.event_graph.specs.Touched.{AddsChanged}
use Rattle.event_graph.proofs.touched.add_changed.Given as goal

abbrev pub invariant-loop-op : goal.invariant-loop-op
invariant-loop-op l =
    (before : Node) (fixings : List Fixing) (decisions : List Decision) → IsPlaced before l.train l.old → ArePlaced (node_at l.problem fixings decisions) l.each
    → AddsChanged before (node_at l.problem fixings decisions) l.train l.op l.orders.pairs l.initial.arcs.items l.arcs.items
