use Rattle.std.proofs.Common.{◌≡◌, List, take, refl, subst, arith}
use Rattle.std.proofs.lemmas.List.{take_all}
use Rattle.disp_model.specs.declared.decision.Decision.{Decision}
use Rattle.disp_model.specs.Node.{node_at}
use Rattle.event_arcs.specs.Ordering.{AddsOrders}
use Rattle.event_arcs.proofs.Deciding.{orders_more}
use Rattle.event_arcs.proofs.orders.add_orders.Goals as goal

pub loop-decision-preserved : goal.loop-decision-preserved
loop-decision-preserved c = λ fixings are.
    orders_more (node_at c.args.problem.now fixings c.args.decisions.now) c.args.decisions.now c.loop-decision.decision-index _ _ c.args.arcs.now.items c.loop-decision.arcs.items c.add_order.new.arcs.items c.loop-decision-test.true refl
    (c.loop-decision.invariant fixings are) (c.in_ok-add_order.ensures fixings c.args.decisions.now are)

pub returns : goal.returns
returns c = λ fixings are.
    let node = node_at c.args.problem.now fixings c.args.decisions.now in
    let whole : take c.loop-decision.decision-index c.args.decisions.now ≡ c.args.decisions.now = take_all c.loop-decision.decision-index c.args.decisions.now (omega (arith, c.loop-decision-test.false)) in
    subst (λ (l : List Decision). AddsOrders node l c.args.arcs.now.items c.loop-decision.arcs.items) whole (c.loop-decision.invariant fixings are)
