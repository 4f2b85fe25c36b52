use Rattle.std.proofs.Common.{ℕ, ◌<◌}
use Rattle.timed_paths.specs.Above.{IsAboveUpper}
use Rattle.timed_paths.proofs.above.first_above.Given as goal

abbrev pub invariant-loop-node : goal.invariant-loop-node
invariant-loop-node l = (node : ℕ) → node < l.node → IsAboveUpper l.paths.lowers l.paths.arcs l.uppers node → ⊥
