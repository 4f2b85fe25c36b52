-- what was read, and what is still read
use Rattle.std.proofs.Common.{◌≡◌, ◌-◌}
use Rattle.packed_nodes.specs.Packed.{packed_items_at, packed_op_at}
use Rattle.packed_nodes.proofs.Looping.{with_front}
use Rattle.packed_nodes.proofs.read.ops_behind.Given as goal

abbrev pub invariant-loop : goal.invariant-loop
invariant-loop l =
    with_front l.ops.items (packed_items_at packed_op_at (l.count - l.counter) l.rest)
    ≡ with_front l.fn.shared.items (packed_items_at packed_op_at l.count l.bytes)
