-- what was compared, and what is still compared
use Rattle.std.proofs.Common.{◌≡◌, ◌-◌, take, length}
use Rattle.packed_nodes.specs.Packed.{packed_items_at, packed_train_at}
use Rattle.packed_nodes.proofs.Looping.{with_front}
use Rattle.packed_nodes.proofs.check.behind_each_train.Given as goal

abbrev pub invariant-loop-listed : goal.invariant-loop-listed
invariant-loop-listed l =
    with_front (take l.listed-index l.trains)
    (packed_items_at packed_train_at (length l.trains - l.listed-index) l.rest)
    ≡ packed_items_at packed_train_at (length l.trains) l.bytes
