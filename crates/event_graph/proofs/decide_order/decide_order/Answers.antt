use Rattle.std.proofs.Common.{ap, arith}
use Rattle.disp_model.specs.declared.decision.Decision.TheVariants.{First}
use Rattle.disp_model.specs.Node.{Node, node_at, with_decision}
use Rattle.disp_laws.proofs.Numbered.{below_count}
use Rattle.event_arcs.proofs.Offsets.{all_have_routes}
use Rattle.event_graph.specs.declared.orders.Pair.{Pair}
use Rattle.event_graph.specs.Kept.{state_of}
use Rattle.event_graph.proofs.Deciding.{order_placed, order_decides, nothing_decides, refused_at, back_again, may_add}
use Rattle.event_graph.proofs.decide_order.decide_order.Goals as goal

pub returns-in_default-clause-decided : goal.returns-in_default-clause-decided
returns-in_default-clause-decided c fixings decisions may =
    nothing_decides (node_at c.args.problem.now fixings decisions) c.args.a c.args.b (state_of c.args.parts.now) may.state (rw c.in_default.is at c.pair_of.ensures)

pub push-requires-clause-from : goal.push-requires-clause-from
push-requires-clause-from c =
    let pair = c.in-Some.ensures in
    omega (arith, ap (λ (p : Pair). p.from) pair.2, below_count c.args.problem.now c.args.a pair.0.train pair.0.op, c.requires.2.size)

pub push-requires-clause-to : goal.push-requires-clause-to
push-requires-clause-to c =
    let pair = c.in-Some.ensures in
    omega (arith, ap (λ (p : Pair). p.to) pair.2, below_count c.args.problem.now c.args.b pair.1.train pair.1.op, c.requires.2.size)

pub returns-in-Ok-join_order-clause-decided : goal.returns-in-Ok-join_order-clause-decided
returns-in-Ok-join_order-clause-decided c fixings decisions may =
    let parts = c.args.parts.now in
    order_decides (node_at c.args.problem.now fixings decisions) c.args.a c.args.b parts.owns.items parts.each.items parts.orders.pairs parts.paths.arcs c.in-Some.pair c.push.new.self.pairs c.join_order.new.paths.arcs c.in-Ok-join_order.arcs may.state
    c.in-Some.ensures.2 c.in-Ok.ensures.ok (c.in-Ok-join_order.ensures.added fixings decisions (may_add (node_at c.args.problem.now fixings decisions) c.args.ops.now c.args.parts.now c.deref-2.result.now c.args.a c.args.b may c.deref-2.ensures.value))

pub returns-in-Err-clause-decided : goal.returns-in-Err-clause-decided
returns-in-Err-clause-decided c fixings decisions may =
    let parts = c.args.parts.now in
    let node : Node = node_at c.args.problem.now fixings decisions in
    let next : Node = with_decision node (First c.args.a c.args.b) in (
      refused_at next c.in-Err.no (all_have_routes next parts.each.items (order_placed node c.args.a c.args.b parts.each.items may.state.placed)) (c.in-Err.ensures.added fixings decisions (may_add (node_at c.args.problem.now fixings decisions) c.args.ops.now c.args.parts.now c.deref-2.result.now c.args.a c.args.b may c.deref-2.ensures.value)),
      back_again parts.owns.items parts.each.items parts.orders.pairs c.push.new.self.pairs c.pop.new.self.pairs c.in-Some.pair parts.paths.arcs c.join_order.new.paths.arcs c.in-Ok.ensures.ok c.pop.ensures.pairs c.in-Err.ensures.err,
    )
