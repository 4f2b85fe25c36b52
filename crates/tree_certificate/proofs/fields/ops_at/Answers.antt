use Rattle.std.proofs.lemmas.Result.{err_from_is_err_and}
use Rattle.std.proofs.Common.{length}
use Rattle.tree_certificate.proofs.Looping.{ops_done, ops_go_on, ops_end, ops_last, ops_surplus, empty_is, not_empty}
use Rattle.tree_certificate.proofs.fields.ops_at.Goals as goal

pub returns-then-is_empty : goal.returns-then-is_empty
returns-then-is_empty c = ops_done c.args.left _ c.loop.ops.items c.loop.rest.now _ (empty_is c.loop.rest.now c.is_empty.result c.is_empty.ensures c.if-is_empty.true) c.loop.invariant

pub returns-in_err-op : goal.returns-in_err-op
returns-in_err-op c =
    let p = err_from_is_err_and c.from_residual.result c.from_residual.ensures.1 in
    rw (p.1, p.2) (ops_end c.in_err-op.field-0.0 c.args.left (length c.args.bytes.now) c.loop.counter c.loop.ops.items c.loop.rest.now _ c.loop-test.true (not_empty c.loop.rest.now c.is_empty.result c.is_empty.ensures c.if-is_empty.false) c.in_err-op.ensures c.loop.invariant)

pub loop-preserved : goal.loop-preserved
loop-preserved c =
    rw c.in_ok-push.ensures.items
    (ops_go_on c.args.left (length c.args.bytes.now) c.loop.counter c.loop.ops.items c.loop.rest.now c.in_ok-op.op c.in_ok-op.after.now _ c.loop-test.true (not_empty c.loop.rest.now c.is_empty.result c.is_empty.ensures c.if-is_empty.false) c.in_ok-op.ensures c.loop.invariant)

pub returns-in_err-line_ended : goal.returns-in_err-line_ended
returns-in_err-line_ended c =
    let p = err_from_is_err_and c.from_residual-in_err-line_ended.result c.from_residual-in_err-line_ended.ensures.1 in
    rw (p.1, p.2) (ops_surplus c.in_err-line_ended.field-0.0 c.args.left (length c.args.bytes.now) c.loop.counter c.loop.ops.items c.loop.rest.now _ c.loop-test.false c.in_err-line_ended.ensures c.loop.invariant)

pub returns : goal.returns
returns c = ops_last c.args.left (length c.args.bytes.now) c.loop.counter c.loop.ops.items c.loop.rest.now _ c.in_ok-line_ended.field-0 c.loop-test.false c.in_ok-line_ended.ensures c.loop.invariant
