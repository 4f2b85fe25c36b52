use Rattle.std.proofs.Common.{refl}
use Rattle.packed_nodes.specs.Packed.{packed_op_at}
use Rattle.packed_nodes.proofs.Looping.{goes_on_in, is_done_in}
use Rattle.packed_nodes.proofs.check.behind_ops.Goals as goal

pub loop-op-preserved : goal.loop-op-preserved
loop-op-preserved c =
    goes_on_in packed_op_at c.args.ops.now c.loop-op.op-index (record { train = 0; op = 0 }) _
    c.loop-op.rest.now c.in_ok-rest.rest.now _ c.loop-op-test.true refl
    c.in_ok-rest.ensures c.loop-op.invariant

pub returns : goal.returns
returns c = is_done_in packed_op_at c.args.ops.now c.loop-op.op-index
    c.loop-op.rest.now _ c.loop-op-test.false c.loop-op.invariant
