use Rattle.near_plans.specs.Plans.{IsBeside}
use Rattle.near_plans.proofs.taking.take_orders_of.Given as goal

abbrev pub invariant-loop-listing : goal.invariant-loop-listing
invariant-loop-listing l = IsBeside l.initial.graph l.graph
