use Rattle.std.proofs.Common.{Option, subst}
use Rattle.std.specs.Prelude.{MatchOption}
use Rattle.disp_model.specs.Node.{node_at}
use Rattle.event_arcs.specs.declared.orders.KnownOrder.{KnownOrder}
use Rattle.event_arcs.specs.Ordering.{IsNoOrder, IsOrdered}
use Rattle.event_arcs.proofs.Deciding.{order_added, no_order_added}
use Rattle.event_arcs.proofs.orders.add_order.Goals as goal

pub returns-in_ok-add_ordered : goal.returns-in_ok-add_ordered
returns-in_ok-add_ordered c = λ fixings decisions are.
    let node = node_at c.args.problem.now fixings decisions in
    let a = c.in-First.a in
    let b = c.in-First.b in
    let is = subst (λ (found : Option KnownOrder). MatchOption found (IsNoOrder node a b) (IsOrdered node a b)) c.in-Some.is (c.known_order.ensures fixings decisions are) in
    order_added node a b c.in-Some.order c.args.decision.now c.args.arcs.now.items c.add_ordered.new.arcs.items c.in-First.is is c.in_ok-add_ordered.ensures

pub returns-in_default-known_order : goal.returns-in_default-known_order
returns-in_default-known_order c = λ fixings decisions are.
    let node = node_at c.args.problem.now fixings decisions in
    let a = c.in-First.a in
    let b = c.in-First.b in
    let none = subst (λ (found : Option KnownOrder). MatchOption found (IsNoOrder node a b) (IsOrdered node a b)) c.in_default-known_order.is (c.known_order.ensures fixings decisions are) in
    no_order_added node a b c.args.decision.now c.args.arcs.now.items c.in-First.is none
