use Rattle.std.proofs.Common.{◌≡◌, ◌≤◌, [], length, drop}
use Rattle.disp_model.specs.Plan.{run_of}
use Rattle.solution_verifier.proofs.event.last_of.Given as goal

abbrev pub invariant-loop-left : goal.invariant-loop-left
invariant-loop-left l = record {
  within : l.left ≤ length l.events;
  none_behind : run_of l.train (drop l.left l.events) ≡ [];
}

abbrev pub decreases-loop-left : goal.decreases-loop-left
decreases-loop-left l = l.left
