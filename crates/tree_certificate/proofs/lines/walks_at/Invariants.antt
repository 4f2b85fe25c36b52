-- what was read, and what is still read
use Rattle.std.proofs.Common.{◌≡◌, ◌-◌}
use Rattle.tree_certificate.specs.LinesRead.{items_at, walk_at}
use Rattle.tree_certificate.proofs.Looping.{with_front}
use Rattle.tree_certificate.proofs.lines.walks_at.Given as goal

abbrev pub invariant-loop : goal.invariant-loop
invariant-loop l = with_front l.walks.items (items_at walk_at (l.count - l.counter) l.rest) ≡ items_at walk_at l.count l.bytes
