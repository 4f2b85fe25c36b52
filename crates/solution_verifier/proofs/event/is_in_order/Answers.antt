use Rattle.std.proofs.Common.{◌≡◌, ◌-◌, ◌≤◌, length, sym, subst, arith}
use Rattle.std.proofs.lemmas.Bool.Decides.{nat_tests}
use Rattle.disp_model.specs.declared.plan.Event.{Event}
use Rattle.solution_verifier.specs.Rules.{EndsWith}
use Rattle.solution_verifier.proofs.Ends.{one_end, ends_at}
use Rattle.solution_verifier.proofs.event.is_in_order.Goals as goal

pub returns-in-Some : goal.returns-in-Some
returns-in-Some c =
    let stood = c.args.stood.now in
    let last = c.in-Some.last.now in
    let ends : EndsWith stood last = ends_at stood (length stood - 1) last (sym c.in-Some.ensures.value) (omega arith) in (
      λ h d end. let same : last ≡ d = one_end stood last d ends end in subst (λ (x : Event). x.time ≤ c.args.time) same (grind (arith, nat_tests, h)),
      λ h. let here : last.time ≤ c.args.time = h last ends in grind (arith, nat_tests),
    )
