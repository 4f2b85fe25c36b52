use Rattle.std.proofs.Common.{arith}
use Rattle.disp_model.specs.Node.{Node, node_at, with_decision}
use Rattle.event_arcs.proofs.Extending.{still_sound}
use Rattle.event_arcs.proofs.Offsets.{placed_at, all_have_routes}
use Rattle.event_graph.proofs.Adding.{adds_train}
use Rattle.event_graph.proofs.touched.arcs_of_train.Goals as goal

pub add_chain_anew-requires-clause-placed : goal.add_chain_anew-requires-clause-placed
add_chain_anew-requires-clause-placed c =
    let fixings = c.requires.placed.0 in
    let decisions = c.requires.placed.1 in
    let placed = c.requires.placed.2 in
    (fixings, decisions, placed_at (node_at c.args.problem.now fixings decisions) c.args.each.now c.args.train c.index-each-train.result placed (omega (arith, c.requires.there, placed.long)) c.index-each-train.is)

pub returns : goal.returns
returns c fixings decisions decision given about was placed orders arcs =
    let node : Node = node_at c.args.problem.now fixings decisions in
    let next : Node = with_decision node decision in
    let t = c.args.train in
    let own = placed_at next c.args.each.now t c.index-each-train.result placed (omega (arith, c.requires.there, placed.long)) c.index-each-train.is in
    let stay = still_sound node decision given (all_have_routes next c.args.each.now placed) arcs.sound in
    adds_train node decision t c.args.orders.now.pairs given c.add_chain_anew.new.arcs.items c.add_changed.new.arcs.items about orders stay
    (rw c.new-arcs.ensures.items at c.in_ok-add_chain_anew.ensures fixings decisions next.decisions given was arcs own) (c.in_ok-add_changed.ensures node fixings next.decisions was placed)
