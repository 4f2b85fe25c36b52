use Rattle.std.proofs.Common.{◌≡◌, ℕ, ◌<◌, take}
use Rattle.solution_verifier.specs.Held.{ended_in}
use Rattle.solution_verifier.specs.Answered.{LetsThrough}
use Rattle.solution_verifier.proofs.held.first_held.Given as goal

abbrev pub invariant-loop-later : goal.invariant-loop-later
invariant-loop-later l = record {
  end : l.end ≡ ended_in l.problem (take l.later l.events) l.place l.holder;
  passes : (k : ℕ) → l.place < k → k < l.later → LetsThrough l.problem l.events l.place k;
}
