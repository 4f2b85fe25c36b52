-- the decisions so far
use Rattle.std.proofs.Common.{◌≡◌, take}
use Rattle.decision_paths.proofs.path.DecisionPath.of.Given as goal

abbrev pub invariant-loop-decision : goal.invariant-loop-decision
invariant-loop-decision l = l.path ≡ take l.decision-index l.decisions
