use Rattle.std.proofs.Common.{sym, arith}
use Rattle.disp_model.specs.Node.{Node, node_at}
use Rattle.event_arcs.proofs.Offsets.{placed_at}
use Rattle.event_graph.proofs.late.is_forced.Goals as goal

pub returns : goal.returns
returns c fixings decisions placed =
    let node : Node = node_at c.args.problem.now fixings decisions in
    c.forced.ensures node c.args.op.train (rw (sym c.index-each-op.is) (placed_at node c.args.each.now c.args.op.train c.index-each-op.result placed (omega (arith, c.requires.there.train, placed.long)) c.index-each-op.is).are_routes)
