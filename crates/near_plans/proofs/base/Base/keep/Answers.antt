use Rattle.std.proofs.Common.{Option, subst}
use Rattle.std.specs.Prelude.{IfOk, IfSome}
use Rattle.near_plans.specs.Plans.{IsFoundBeside}
use Rattle.near_plans.specs.declared.base.Base.{Base}
use Rattle.near_plans.proofs.base.Base.keep.Goals as goal

pub returns-in-Some : goal.returns-in-Some
returns-in-Some c =
    λ root found before.
    subst (λ (b : Option Base). IfSome b (λ base. IsFoundBeside root base.plan)) c.in-Some.is
    (subst (λ r. IfOk r (λ (b : Option Base). IfSome b (λ base. IsFoundBeside root base.plan))) c.in_ok-base.was (c.of_outlook.ensures root found))
