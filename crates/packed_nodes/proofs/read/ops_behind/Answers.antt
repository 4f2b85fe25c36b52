use Rattle.std.proofs.lemmas.Result.{err_from_is_err_and}
use Rattle.packed_nodes.specs.Packed.{packed_items_at, packed_op_at, packed_ops_behind}
use Rattle.packed_nodes.proofs.Looping.{with_front, goes_on, ends, is_done}
use Rattle.packed_nodes.proofs.read.ops_behind.Goals as goal

pub returns-in_err-op : goal.returns-in_err-op
unfolding packed_ops_behind
returns-in_err-op c =
    let p = err_from_is_err_and c.from_residual.result c.from_residual.ensures.1 in
    rw (p.1, p.2) (ends packed_op_at c.in_err-op.field-0.0 c.loop.ops.items c.args.count
    c.loop.counter c.loop.rest.now (with_front c.args.shared.items (packed_items_at packed_op_at
    c.args.count c.args.bytes.now))
    c.loop-test.true c.in_err-op.ensures c.loop.invariant)

pub loop-preserved : goal.loop-preserved
loop-preserved c =
    rw c.in_ok-push.ensures.items (goes_on packed_op_at c.loop.ops.items c.args.count
    c.loop.counter c.loop.rest.now c.in_ok-op.op c.in_ok-op.after.now
    (with_front c.args.shared.items (packed_items_at packed_op_at c.args.count c.args.bytes.now))
    c.loop-test.true c.in_ok-op.ensures
    c.loop.invariant)

pub returns : goal.returns
unfolding packed_ops_behind
returns c = is_done packed_op_at c.loop.ops.items c.args.count c.loop.counter c.loop.rest.now
    (with_front c.args.shared.items (packed_items_at packed_op_at c.args.count c.args.bytes.now))
    c.loop-test.false c.loop.invariant
