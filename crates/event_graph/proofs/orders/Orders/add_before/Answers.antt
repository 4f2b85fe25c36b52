use Rattle.std.proofs.Common.{ap, arith}
use Rattle.disp_model.specs.Node.{node_at}
use Rattle.event_graph.specs.Pairs.{Ordered}
use Rattle.event_graph.proofs.Touching.{placed_last, place_on, loop_begins, loop_on, added_all}
use Rattle.event_graph.proofs.orders.Orders.add_before.Goals as goal

pub loop-place-init : goal.loop-place-init
loop-place-init c =
    let keys = c.self.inside.by_second.keys in
    let same = ap (λ (o : Ordered). o.pairs) c.self.view_is in (
      placed_last keys _ c.args.number c.last-place.result (omega arith) c.last-place.ensures,
      λ fixings decisions placed. loop_begins (λ p. p.to) keys c.args.number (node_at c.args.problem.now fixings decisions) c.self.inside.pairs.items c.args.self.now.pairs c.last-place.result c.args.arcs.now.items c.self.invariant.seconds same c.last-place.ensures,
    )

pub loop-place-preserved : goal.loop-place-preserved
loop-place-preserved c =
    let keys = c.self.inside.by_second.keys in
    let same = ap (λ (o : Ordered). o.pairs) c.self.view_is in (
      place_on keys c.args.number c.loop-place.place c.before-place.result c.loop-place-test.true c.loop-place.invariant.0 c.before-place.ensures,
      λ fixings decisions placed.
          loop_on (λ p. p.to) keys c.args.number (node_at c.args.problem.now fixings decisions) c.self.inside.pairs.items c.args.self.now.pairs c.loop-place.place c.before-place.result c.index-pair.result.now c.decision_of.result
          c.args.arcs.now.items c.loop-place.arcs.items c.add_order.new.arcs.items c.self.invariant.seconds same c.loop-place-test.true c.index-pair.ensures c.decision_of.ensures c.loop-place.invariant.0 c.before-place.ensures
          (c.loop-place.invariant.1 fixings decisions placed) (c.in_ok-add_order.ensures fixings decisions placed),
    )

pub returns : goal.returns
returns c fixings decisions placed =
    added_all (λ p. p.to) c.args.number (node_at c.args.problem.now fixings decisions) c.args.self.now.pairs c.loop-place.place c.args.arcs.now.items c.loop-place.arcs.items c.loop-place-test.false (c.loop-place.invariant.1 fixings decisions placed)
