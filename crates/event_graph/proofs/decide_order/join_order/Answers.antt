use Rattle.std.proofs.Common.{◌∙◌, ◌++◌, List, ap, arith}
use Rattle.disp_model.specs.Node.{Node, node_at, with_decision}
use Rattle.incremental_paths.specs.declared.arc.Arc.{Arc}
use Rattle.event_graph.proofs.Deciding.{placed_then, order_joins, added}
use Rattle.event_graph.proofs.decide_order.join_order.Goals as goal

pub join-requires : goal.join-requires
join-requires c =
    let node : Node = node_at c.args.problem.now c.requires.0 c.requires.1 in
    let may = c.requires.2 in
    let next : Node = with_decision node c.args.decision in (
      next,
      rw c.deref.ensures.value (order_joins node c.args.ops.now c.args.each.now c.args.paths.now c.args.decision c.add_order.new.arcs.items may
          (rw c.new-arcs.ensures.items at c.in-Ok.ensures c.requires.0 next.decisions (placed_then node c.args.ops.now c.args.each.now c.args.paths.now c.args.decision may))),
    )

pub returns-in-Ok-join-clause-added : goal.returns-in-Ok-join-clause-added
returns-in-Ok-join-clause-added c fixings decisions may =
    let node : Node = node_at c.args.problem.now fixings decisions in
    let next : Node = with_decision node c.args.decision in
    let new = c.add_order.new.arcs.items in
    let joins = order_joins node c.args.ops.now c.args.each.now c.args.paths.now c.args.decision new may
    (rw c.new-arcs.ensures.items at c.in-Ok.ensures fixings next.decisions (placed_then node c.args.ops.now c.args.each.now c.args.paths.now c.args.decision may)) in
    added next c.args.paths.now.arcs new c.join.new.paths.arcs c.len.result (c.in-Ok-join.ensures.ok ∙ ap (λ (l : List Arc). c.args.paths.now.arcs ++ l) c.deref.ensures.value)
    (omega (arith, c.len.ensures, c.add_order.new.arcs.ok)) joins.arcs_are (c.in-Ok-join.ensures.joined next (rw c.deref.ensures.value joins))

pub returns-clause-added : goal.returns-clause-added
returns-clause-added c fixings decisions may =
    let node : Node = node_at c.args.problem.now fixings decisions in
    let next : Node = with_decision node c.args.decision in
    c.in-Err.ensures.joined next (rw c.deref.ensures.value (order_joins node c.args.ops.now c.args.each.now c.args.paths.now c.args.decision c.add_order.new.arcs.items may
    (rw c.new-arcs.ensures.items at c.in-Ok.ensures fixings next.decisions (placed_then node c.args.ops.now c.args.each.now c.args.paths.now c.args.decision may))))
