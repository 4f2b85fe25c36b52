-- the lines that line_ended so far, and one more
use Rattle.std.proofs.Common.{◌≡◌, ◌+◌, ◌≤◌, take}
use Rattle.std.specs.Prelude.{count_by, ◌==◌}
use Rattle.tree_certificate.proofs.read.line_number.Given as goal

abbrev pub invariant-loop-byte : goal.invariant-loop-byte
invariant-loop-byte l = (l.number ≡ count_by (λ b. b == 10) (take l.byte-index l.byte-items) + 1) × (l.number ≤ l.byte-index + 1)
