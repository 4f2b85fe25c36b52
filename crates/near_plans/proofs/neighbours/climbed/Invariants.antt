use Rattle.near_plans.specs.Plans.{IsBeside, IsFoundBeside}
use Rattle.near_plans.proofs.neighbours.climbed.Given as goal

abbrev pub invariant-loop : goal.invariant-loop
invariant-loop l = IsBeside l.initial.graph l.graph × IsFoundBeside l.initial.graph l.base.plan
