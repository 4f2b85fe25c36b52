use Rattle.near_plans.specs.Plans.{IsBeside}
use Rattle.near_plans.proofs.taking.take_orders.Given as goal

abbrev pub invariant-loop-event : goal.invariant-loop-event
invariant-loop-event l = IsBeside l.initial.graph l.graph
