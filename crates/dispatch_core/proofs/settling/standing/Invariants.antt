use Rattle.std.proofs.Common.{◌≡◌, ◌++◌}
use Rattle.disp_model.specs.Changes.{standing_of}
use Rattle.dispatch_core.proofs.TakingBack.{standing_rest}
use Rattle.dispatch_core.proofs.settling.standing.Given as goal

abbrev pub invariant-loop-place : goal.invariant-loop-place
invariant-loop-place l = l.fixings.items ++ standing_rest l.changes l.place ≡ standing_of l.changes
