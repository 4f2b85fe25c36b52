use Rattle.std.proofs.Common.{length, arith}
use Rattle.std.proofs.lemmas.Result.{err_from_is_err_and}
use Rattle.tree_certificate.proofs.Filling.{nodes_done, nodes_go_on, nodes_end, nodes_cut}
use Rattle.tree_certificate.proofs.nodes.nodes_at.Goals as goal

pub returns-then-open-eq0 : goal.returns-then-open-eq0
returns-then-open-eq0 c = nodes_done c.args.third _ c.loop.open c.loop.nodes.items c.loop.rest.now _ c.if-open-eq0.true c.loop.invariant.0

pub returns-in_err-node : goal.returns-in_err-node
returns-in_err-node c =
    let p = err_from_is_err_and c.from_residual.result c.from_residual.ensures.1 in
    rw (p.1, p.2) (nodes_end c.in_err-node.field-0.0 c.args.third (length c.args.bytes.now) c.loop.counter c.loop.open c.loop.nodes.items c.loop.rest.now _ c.loop-test.true c.if-open-eq0.false c.in_err-node.ensures c.loop.invariant.0)

pub loop-preserved : goal.loop-preserved
loop-preserved c = (
  rw (c.in_ok-push.ensures.items, c.in_ok-pack.ensures)
      (nodes_go_on c.args.third (length c.args.bytes.now) c.loop.counter c.loop.open _ c.loop.nodes.items c.loop.rest.now c.in_ok-node.node c.in_ok-node.after.now _ c.loop-test.true c.if-open-eq0.false
      (omega (arith, c.from.ensures, c.places_opened.ensures, c.if-open-eq0.false)) c.in_ok-node.ensures c.loop.invariant.0),
  omega (arith, c.loop.invariant.1, c.places_opened.type_inv, c.from.ensures),
)

pub returns-then-open-eq0-2 : goal.returns-then-open-eq0-2
returns-then-open-eq0-2 c = nodes_done c.args.third _ c.loop.open c.loop.nodes.items c.loop.rest.now _ c.if-open-eq0-2.true c.loop.invariant.0

pub returns : goal.returns
returns c = nodes_cut c.args.third (length c.args.bytes.now) c.loop.counter c.loop.open c.loop.nodes.items c.loop.rest.now _ c.loop-test.false c.if-open-eq0-2.false c.loop.invariant.0
