use Rattle.branch_rules.specs.Picks.{AreAlone}
use Rattle.branch_rules.proofs.pick.first_fork.Given as goal

abbrev pub invariant-loop-train : goal.invariant-loop-train
invariant-loop-train l = AreAlone l.graph l.train
