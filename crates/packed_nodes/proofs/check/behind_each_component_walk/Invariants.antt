-- what was compared, and what is still compared
use Rattle.std.proofs.Common.{◌≡◌, ◌-◌, [], take, length}
use Rattle.packed_nodes.specs.Packed.{packed_items_behind, component_walk_at, walk_listed}
use Rattle.packed_nodes.proofs.Looping.{with_front}
use Rattle.packed_nodes.proofs.check.behind_each_component_walk.Given as goal

abbrev pub invariant-loop-walk : goal.invariant-loop-walk
invariant-loop-walk l =
    with_front (take l.walk-index l.walks) (packed_items_behind walk_listed component_walk_at
    l.front
    (length l.walks - l.walk-index) l.rest)
    ≡ packed_items_behind walk_listed component_walk_at [] (length l.walks) l.bytes
