use Rattle.std.proofs.Common.{◌≡◌, ℕ, ◌<◌, ◌≤◌}
use Rattle.std.specs.Prelude.{MatchOption}
use Rattle.solution_verifier.specs.Answered.{LetsThrough, IsLeastClash}
use Rattle.solution_verifier.proofs.held.first_clash.Given as goal

abbrev pub invariant-loop-place : goal.invariant-loop-place
invariant-loop-place l = record {
  within : l.limit ≤ l.bound;
  passes : (h k : ℕ) → h < l.place → h < k → k < l.limit → LetsThrough l.problem l.events h k;
  found : MatchOption l.found (l.limit ≡ l.bound) (IsLeastClash l.problem l.events l.bound l.limit);
}
