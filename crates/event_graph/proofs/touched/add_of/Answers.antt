use Rattle.std.proofs.Common.{arith}
use Rattle.std.proofs.lemmas.Result.{on_ok_weaker}
use Rattle.disp_model.specs.Node.{Node, node_at}
use Rattle.event_arcs.proofs.Offsets.{placed_at}
use Rattle.event_graph.proofs.Staying.{numbered, numbered_within, changed_more, changed_same}
use Rattle.event_graph.proofs.touched.add_of.Goals as goal

pub overflow_add-placed : goal.overflow_add-placed
overflow_add-placed c =
    let node : Node = node_at c.args.problem.now c.requires.placed.0 c.requires.placed.1 in
    omega (arith, numbered_within node c.args.each.now c.args.train c.args.op _ c.requires.placed.2 c.requires.there c.requires.within c.index-each-train.is, c.args.problem.now.well_formed.operations_fit)

pub add_touching-requires-clause-number : goal.add_touching-requires-clause-number
add_touching-requires-clause-number c =
    let node : Node = node_at c.args.problem.now c.requires.placed.0 c.requires.placed.1 in
    omega (arith, numbered_within node c.args.each.now c.args.train c.args.op _ c.requires.placed.2 c.requires.there c.requires.within c.index-each-train.is, c.requires.size)

pub returns-then-not-is_touched : goal.returns-then-not-is_touched
returns-then-not-is_touched c before fixings decisions base old placed adds =
    let node : Node = node_at c.args.problem.now fixings decisions in
    let own = placed_at node c.args.each.now c.args.train c.index-each-train.result placed (omega (arith, c.requires.there, placed.long)) c.index-each-train.is in
    changed_same before node c.args.train c.args.op c.args.orders.now.pairs base c.args.arcs.now.items adds (c.is_touched.ensures before node c.args.train old.are_routes own.are_routes c.if-not-is_touched.true)

pub returns : goal.returns
returns c before fixings decisions base old placed adds =
    let node : Node = node_at c.args.problem.now fixings decisions in
    on_ok_weaker c.add_touching.result
    (λ touching. changed_more before node c.args.train c.args.op _ c.args.orders.now.pairs base c.args.arcs.now.items c.add_touching.new.arcs.items adds touching
    (numbered node c.args.each.now c.args.train c.args.op c.index-each-train.result placed c.requires.there c.index-each-train.is))
    (c.add_touching.ensures fixings decisions placed)
