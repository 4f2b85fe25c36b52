use Rattle.std.proofs.Common.{◌≡◌, ℕ, ◌<◌, ◌≤◌, length, get_or}
use Rattle.incremental_paths.proofs.shifts.number.Given as goal

abbrev pub invariant-loop-place : goal.invariant-loop-place
invariant-loop-place g l = record {
  front : (i : ℕ) → i < l.place → get_or l.places (get_or l.nodes i 0) 0 ≡ i;
  rest : (i : ℕ) → l.end ≤ i → i < length l.nodes → get_or l.places (get_or l.nodes i 0) 0 ≡ i;
}
