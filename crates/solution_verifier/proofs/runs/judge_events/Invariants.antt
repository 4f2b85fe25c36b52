use Rattle.std.proofs.Common.{ℕ, ◌<◌}
use Rattle.solution_verifier.specs.Answered.{KeepsEventRules}
use Rattle.solution_verifier.proofs.runs.judge_events.Given as goal

abbrev pub invariant-loop-place : goal.invariant-loop-place
invariant-loop-place l = (k : ℕ) → k < l.place → KeepsEventRules l.problem l.events k
