-- what was read, and what is still read
use Rattle.std.proofs.Common.{◌≡◌, ◌-◌}
use Rattle.tree_certificate.specs.LinesRead.{items_at, train_read}
use Rattle.tree_certificate.proofs.Looping.{with_front}
use Rattle.tree_certificate.proofs.lines.trains_at.Given as goal

abbrev pub invariant-loop : goal.invariant-loop
invariant-loop l = with_front l.trains.items (items_at train_read (l.count - l.counter) l.rest) ≡ items_at train_read l.count l.bytes
