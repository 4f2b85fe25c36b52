use Rattle.std.specs.Prelude.{IfSome}
use Rattle.near_plans.specs.Plans.{IsBeside, IsFoundBeside}
use Rattle.near_plans.proofs.outlook.look_below.Given as goal

abbrev pub invariant-loop : goal.invariant-loop
invariant-loop l = IsBeside l.initial.graph l.graph
    × IfSome l.outlook.plan (IsFoundBeside l.initial.graph)
