use Rattle.std.specs.Prelude.{List, None}
use Rattle.std.proofs.Common.{◌≡◌, ◌∙◌, ap, subst, arith}
use Rattle.disp_model.specs.declared.fixing.Change.{Change}
use Rattle.disp_model.specs.declared.fixing.Fixing.{Fixing}
use Rattle.disp_model.specs.declared.problem.Problem.{Problem}
use Rattle.disp_model.specs.Changes.{standing_of}
use Rattle.disp_model.specs.Cost.{cost_of}
use Rattle.disp_model.specs.History.{edition_of}
use Rattle.solution_verifier.specs.First.{IsRight, IsFirstFault}
use Rattle.dispatch_core.specs.States.{Core}
use Rattle.dispatch_core.proofs.Publishing.{plan_cost_fits}
use Rattle.dispatch_core.proofs.machine.Core.judge.Goals as goal

-- what holds for the problem and the fixings that are handed on holds for the core's
module _ (P : Problem → List Fixing → Type 0) (problem : Problem) (fixings : List Fixing) (changes listed : List Change) (core : Core) where
  handed : fixings ≡ standing_of listed → listed ≡ changes → problem ≡ core.problem → standing_of changes ≡ edition_of core.history → P problem fixings → P core.problem (edition_of core.history)
  handed stand all same now is = subst (λ (p : Problem). P p (edition_of core.history)) same (subst (P problem) (stand ∙ ap standing_of all ∙ now) is)

pub overflow_cast-result : goal.overflow_cast-result
overflow_cast-result c =
    let right = (c.verify.ensures.right c.in-Ok.cost).0 c.in-Ok.is in
    let same : c.problem.result.now ≡ c.args.self.now.problem = c.problem.ensures ∙ ap (λ (s : Core). s.problem) c.self.view_is in
    let fits = plan_cost_fits c.args.self.now.problem c.args.plan.now c.requires in
    let cost : c.in-Ok.cost ≡ cost_of c.args.self.now.problem.components c.args.plan.now = right.cost ∙ ap (λ (p : Problem). cost_of p.components c.args.plan.now) same in
    omega (arith, fits, cost)

pub returns-in-Ok : goal.returns-in-Ok
returns-in-Ok c =
    let right = (c.verify.ensures.right c.in-Ok.cost).0 c.in-Ok.is in
    let same : c.problem.result.now ≡ c.args.self.now.problem = c.problem.ensures ∙ ap (λ (s : Core). s.problem) c.self.view_is in
    let now : standing_of c.self.inside.editions.changes ≡ edition_of c.args.self.now.history = ap standing_of c.self.invariant.0.changes ∙ ap (λ (s : Core). edition_of s.history) c.self.view_is in
    let there = handed (λ p f. IsRight p f c.args.plan.now None c.in-Ok.cost) c.problem.result.now c.as_slice.result.now c.self.inside.editions.changes c.changes.result.now c.args.self.now
    (c.as_slice.ensures.value ∙ c.in_ok-fixings.ensures) c.changes.ensures.all same now right in
    (there.valid, there.cost)

pub returns : goal.returns
returns c =
    let first = (c.verify.ensures.first c.in-Err.fault).0 c.in-Err.is in
    let same : c.problem.result.now ≡ c.args.self.now.problem = c.problem.ensures ∙ ap (λ (s : Core). s.problem) c.self.view_is in
    let now : standing_of c.self.inside.editions.changes ≡ edition_of c.args.self.now.history = ap standing_of c.self.invariant.0.changes ∙ ap (λ (s : Core). edition_of s.history) c.self.view_is in
    handed (λ p f. IsFirstFault p f c.args.plan.now None c.in-Err.fault) c.problem.result.now c.as_slice.result.now c.self.inside.editions.changes c.changes.result.now c.args.self.now
    (c.as_slice.ensures.value ∙ c.in_ok-fixings.ensures) c.changes.ensures.all same now first
