use Rattle.std.proofs.Common.{◌∙◌, ◌+◌, sym, ap, arith}
use Rattle.event_arcs.specs.declared.placed.Placed.{Placed}
use Rattle.disp_model.specs.Node.{Node, node_at}
use Rattle.event_graph.proofs.Staying.{numbered, numbered_within}
use Rattle.event_graph.proofs.decide_order.number_at.Goals as goal

pub overflow_add-result : goal.overflow_add-result
overflow_add-result c =
    let node : Node = node_at c.args.problem.now c.requires.0 c.requires.1 in
    let op = c.is_there.ensures.0 c.if-not-is_there.false in
    omega (arith, numbered_within node c.args.each.now c.args.op.train c.args.op.op _ c.requires.2 op.train op.op c.index-each-op.is, c.args.problem.now.well_formed.operations_fit, ap (λ (p : Placed). p.first) c.index-each-op.is)

pub returns : goal.returns
returns c =
    let node : Node = node_at c.args.problem.now c.requires.0 c.requires.1 in
    let op = c.is_there.ensures.0 c.if-not-is_there.false in
    (op, ap (λ (p : Placed). p.first + c.args.op.op) (sym c.index-each-op.is) ∙ numbered node c.args.each.now c.args.op.train c.args.op.op _ c.requires.2 op.train c.index-each-op.is)
