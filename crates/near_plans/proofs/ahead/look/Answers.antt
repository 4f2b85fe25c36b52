use Rattle.std.proofs.Common.{Option, subst}
use Rattle.std.specs.Prelude.{IfSome}
use Rattle.near_plans.specs.Plans.{IsFoundBeside}
use Rattle.near_plans.specs.declared.base.Base.{Base}
use Rattle.near_plans.proofs.Finding.{found_beside, found_there, found_is_plan}
use Rattle.near_plans.proofs.ahead.look.Goals as goal

pub improved-requires-clause-plan : goal.improved-requires-clause-plan
improved-requires-clause-plan c =
    found_there c.args.graph.now c.first_plan.new.graph c.first_plan.ensures.beside c.in-Some.base.plan
    (subst (λ (b : Option Base). IfSome b (λ base. IsFoundBeside c.args.graph.now base.plan)) c.in-Some.is c.in_ok-base.ensures.plan)

pub returns-clause-plan : goal.returns-clause-plan
returns-clause-plan c =
    let plan = c.in_ok-plan.field-0.plan in
    found_is_plan c.args.graph.now c.requires.edition plan
    (found_beside c.args.graph.now c.first_plan.new.graph c.first_plan.ensures.beside plan c.in_ok-plan.ensures.plan)
