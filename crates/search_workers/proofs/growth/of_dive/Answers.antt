use Rattle.std.proofs.Common.{◌∙◌, refl, sym}
use Rattle.std.proofs.lemmas.Bool.{false≢true}
use Rattle.search_workers.proofs.Growths.{when_open, with_plan, stays_examined}
use Rattle.search_workers.proofs.growth.of_dive.Goals as goal

pub returns-in-Plan : goal.returns-in-Plan
returns-in-Plan c = λ rule node best edition is. with_plan rule node best c.args.allowance c.args.bound c.args.found is edition c.in-Plan.plan c.in-Plan.is

pub returns-then-is_as_before : goal.returns-then-is_as_before
returns-then-is_as_before c = λ rule node best edition is.
    let test = c.if-is_as_before.ensures.0 refl in
    stays_examined rule node best c.args.allowance c.args.bound c.args.found is c.in-Open.is test.0 (sym c.as_slice.ensures ∙ test.1)

pub returns-else-is_as_before : goal.returns-else-is_as_before
returns-else-is_as_before c = λ rule node best edition is.
    when_open rule node best c.args.allowance c.args.bound c.args.found is c.in-Open.is
    (λ none only. false≢true (c.if-is_as_before.ensures.1 (none, c.as_slice.ensures ∙ only)))
