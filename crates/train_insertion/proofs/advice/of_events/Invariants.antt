-- what the trains run so far, with what the other events add, is what the plan has of them
use Rattle.std.proofs.Common.{◌≡◌, ℕ, ◌<◌, ◌++◌, length, map, drop}
use Rattle.disp_model.specs.Plan.{run_of}
use Rattle.train_insertion.specs.Targets.{run_in, start_at}
use Rattle.train_insertion.proofs.advice.of_events.Given as goal

abbrev pub invariant-loop-event : goal.invariant-loop-event
invariant-loop-event l = record {
  long : length l.runs.items ≡ l.trains;
  each : (t : ℕ) → t < l.trains → run_in l.runs.items t
      ++ map start_at (run_of t (drop l.event-index l.plan)) ≡ map start_at (run_of t l.plan);
}
