use Rattle.std.proofs.Common.{ℕ, ◌*◌, ◌<◌, ◌≤◌}
use Rattle.open_nodes.specs.Blocks.{IsCandidate}
use Rattle.open_nodes.proofs.blocks.first_in.Given as goal

abbrev pub invariant-loop-number : goal.invariant-loop-number
invariant-loop-number l = (n : ℕ) → 64 * l.block ≤ n → n < l.number → IsCandidate l.pool l.places l.best n → ⊥
