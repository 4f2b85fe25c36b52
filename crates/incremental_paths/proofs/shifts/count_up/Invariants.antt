use Rattle.std.proofs.Common.{◌≡◌, ℕ, ◌<◌, length, get_or}
use Rattle.incremental_paths.proofs.shifts.count_up.Given as goal

abbrev pub invariant-loop-node : goal.invariant-loop-node
invariant-loop-node l = record { size : length l.numbers.items ≡ l.node; each : (k : ℕ) → k < l.node → get_or l.numbers.items k 0 ≡ k }
