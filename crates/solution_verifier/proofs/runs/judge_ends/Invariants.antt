use Rattle.std.proofs.Common.{ℕ, ◌<◌}
use Rattle.solution_verifier.specs.First.{IsComplete}
use Rattle.solution_verifier.proofs.runs.judge_ends.Given as goal

abbrev pub invariant-loop-place : goal.invariant-loop-place
invariant-loop-place l = (u : ℕ) → u < l.place → IsComplete l.problem l.events u
