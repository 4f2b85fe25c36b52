use Rattle.near_plans.specs.Plans.{IsBeside}
use Rattle.search_tests.proofs.tests.rehearsed.move_to.Given as goal

abbrev pub invariant-loop-decision : goal.invariant-loop-decision
invariant-loop-decision g l = IsBeside l.initial.graph l.graph
