-- what was read, and what is still read
use Rattle.std.proofs.Common.{◌≡◌, ◌-◌, []}
use Rattle.packed_nodes.specs.Packed.{packed_items_behind, packed_walk_at, last_walk, walk_itself}
use Rattle.packed_nodes.proofs.Looping.{with_front}
use Rattle.packed_nodes.proofs.read.walks_in.Given as goal

abbrev pub invariant-loop : goal.invariant-loop
invariant-loop l =
    with_front l.walks.items (packed_items_behind walk_itself packed_walk_at
    (last_walk walk_itself l.walks.items) (l.count - l.counter) l.rest)
    ≡ packed_items_behind walk_itself packed_walk_at [] l.count l.bytes
