-- the first so many decisions stand
use Rattle.std.proofs.Common.{◌≡◌, length, take}
use Rattle.decision_paths.proofs.path.DecisionPath.truncate.Given as goal

abbrev pub invariant-loop-self : goal.invariant-loop-self
invariant-loop-self l = take l.depth l.self ≡ take l.depth l.fn.self

abbrev pub decreases-loop-self : goal.decreases-loop-self
decreases-loop-self l = length l.self
