use Rattle.event_arcs.proofs.Numbering.{forced_is_op}
use Rattle.first_overlaps.proofs.Spanning.{is_node, longest_is, longest_small}
use Rattle.first_overlaps.proofs.span.start_of.Goals as goal

pub number-number-requires : goal.number-number-requires
number-number-requires c = forced_is_op c.args.graph.now c.args.op c.requires

pub length-requires : goal.length-requires
length-requires c = is_node c.args.graph.now c.paths.result.now.lowers c.args.op c.number-number.result c.paths.ensures.lowers c.requires c.number-number.ensures

pub returns-clause-longest : goal.returns-clause-longest
returns-clause-longest c =
    let network = c.paths.result.now in
    longest_is c.args.graph.now network.arcs network.lowers c.args.op c.number-number.result c.length.result
    c.paths.ensures.arcs c.paths.ensures.lowers c.paths.ensures.no_cycle c.requires c.number-number.ensures c.length.ensures.longest

pub returns-clause-small : goal.returns-clause-small
returns-clause-small c =
    let network = c.paths.result.now in
    longest_small c.args.graph.now c.args.op c.length.result c.paths.ensures.no_cycle c.paths.ensures.edition
    (longest_is c.args.graph.now network.arcs network.lowers c.args.op c.number-number.result c.length.result
    c.paths.ensures.arcs c.paths.ensures.lowers c.paths.ensures.no_cycle c.requires c.number-number.ensures c.length.ensures.longest)
