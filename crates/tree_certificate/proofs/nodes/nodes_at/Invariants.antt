-- what was read, and what is still read; and how many places may be open
use Rattle.std.proofs.Common.{◌≡◌, ◌-◌, ◌+◌, ◌*◌, ◌≤◌, length}
use Rattle.tree_certificate.specs.NodesRead.{nodes_at}
use Rattle.tree_certificate.proofs.Looping.{with_front}
use Rattle.tree_certificate.proofs.nodes.nodes_at.Given as goal

abbrev pub invariant-loop : goal.invariant-loop
invariant-loop l =
    (with_front l.nodes.items (nodes_at l.third (length l.bytes - l.counter) l.open l.rest) ≡ nodes_at l.third (length l.bytes) 1 l.bytes)
    × (l.open ≤ 1 + l.counter * 4294967296)
