-- what was compared, and what is still compared
use Rattle.std.proofs.Common.{◌≡◌, ◌-◌, take, length}
use Rattle.packed_nodes.specs.Packed.{packed_items_at, packed_op_at}
use Rattle.packed_nodes.proofs.Looping.{with_front}
use Rattle.packed_nodes.proofs.check.behind_ops.Given as goal

abbrev pub invariant-loop-op : goal.invariant-loop-op
invariant-loop-op l =
    with_front (take l.op-index l.ops)
    (packed_items_at packed_op_at (length l.ops - l.op-index) l.rest)
    ≡ packed_items_at packed_op_at (length l.ops) l.bytes
