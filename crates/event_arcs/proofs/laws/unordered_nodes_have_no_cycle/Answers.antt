use Rattle.event_arcs.proofs.Cycling.{no_order_no_cycle}
use Rattle.event_arcs.proofs.laws.unordered_nodes_have_no_cycle.Goals as goal

pub returns : goal.returns
returns c = no_order_no_cycle
