use Rattle.std.proofs.Common.{◌∙◌, List, Contains, refl, sym, subst}
use Rattle.std.proofs.lemmas.Bool.{false≢true}
use Rattle.disp_model.specs.declared.decision.Decision.{Decision}
use Rattle.disp_model.specs.declared.decision.Decision.TheVariants.{First}
use Rattle.decision_paths.proofs.Firsts.{has_order, has_not}
use Rattle.decision_paths.proofs.path.DecisionPath.puts_first.Goals as goal

pub returns-in-Some : goal.returns-in-Some
returns-in-Some c = (
  λ _.
      subst (λ (l : List Decision). Contains l (First c.args.a c.args.b)) c.self.view_is
      (has_order c.self.inside.decisions.items c.self.inside.orders.entries c.args.a c.args.b c.in-Some.field-0 c.self.invariant.firsts (sym c.place_of.ensures ∙ c.in-Some.is)),
  λ _. refl,
)

pub returns-in-None : goal.returns-in-None
returns-in-None c = (
  λ h. absurd (false≢true h),
  λ there. absurd (has_not c.self.inside.decisions.items c.self.inside.orders.entries c.args.a c.args.b c.self.invariant.firsts (sym c.place_of.ensures ∙ c.in-None.is) (subst (λ (l : List Decision). Contains l (First c.args.a c.args.b)) (sym c.self.view_is) there)),
)
