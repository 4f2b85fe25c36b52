use Rattle.event_arcs.proofs.Numbering.{forced_is_op}
use Rattle.cost_bound.proofs.walk.longest_walk.Goals as goal

pub number-requires : goal.number-requires
number-requires c = forced_is_op c.args.graph.now c.args.op c.requires
