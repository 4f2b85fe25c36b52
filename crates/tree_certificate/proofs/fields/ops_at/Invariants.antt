-- what was read, and what is still read
use Rattle.std.proofs.Common.{◌≡◌, ◌-◌, length}
use Rattle.tree_certificate.specs.FieldsRead.{ops_at}
use Rattle.tree_certificate.proofs.Looping.{ops_front}
use Rattle.tree_certificate.proofs.fields.ops_at.Given as goal

abbrev pub invariant-loop : goal.invariant-loop
invariant-loop l = ops_front l.ops.items (ops_at l.left (length l.bytes - l.counter) l.rest) ≡ ops_at l.left (length l.bytes) l.bytes
