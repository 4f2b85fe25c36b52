-- one run without operations for each train so far
use Rattle.std.proofs.Common.{◌≡◌, ℕ, ◌<◌, [], length}
use Rattle.train_insertion.specs.Targets.{run_in}
use Rattle.train_insertion.proofs.advice.no_runs.Given as goal

abbrev pub invariant-loop : goal.invariant-loop
invariant-loop l = record {
  long : length l.runs.items ≡ l.counter;
  none : (t : ℕ) → t < l.counter → run_in l.runs.items t ≡ [];
}
