use Rattle.disp_model.specs.Node.{Node}
use Rattle.near_plans.specs.Plans.{IsBeside, IsFoundBeside}
use Rattle.near_plans.proofs.neighbours.try_region.Given as goal

abbrev pub invariant-loop : goal.invariant-loop
invariant-loop l = IsBeside l.initial.graph l.graph
    × ((root : Node) → IsBeside root l.initial.graph → IsFoundBeside root l.initial.base.plan → IsFoundBeside root l.base.plan)
