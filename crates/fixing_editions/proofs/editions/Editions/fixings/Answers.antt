use Rattle.std.proofs.Common.{◌≡◌, ◌≤◌, length, List, refl, sym, subst, ap, ◌∙◌, arith}
use Rattle.disp_model.specs.declared.fixing.Fixing.{Fixing}
use Rattle.disp_model.specs.declared.limits.TheConstants.{MOST_CHANGES}
use Rattle.disp_model.specs.Changes.{standing_of}
use Rattle.disp_model.specs.Replies.{IsEdition}
use Rattle.fixing_editions.specs.Edition.{Edition}
use Rattle.fixing_editions.proofs.Standing.{few_stand}
use Rattle.fixing_editions.proofs.editions.Editions.fixings.Goals as goal

pub returns : goal.returns
returns c =
    let all : c.as_slice-2.result.now ≡ standing_of c.args.self.now.changes =
    c.as_slice-2.ensures.value ∙ c.settle.ensures.standing ∙ ap standing_of c.as_slice.ensures.value
    ∙ ap (λ (e : Edition). standing_of e.changes) c.self.view_is in
    let few : length (standing_of c.self.inside.changes.items) ≤ MOST_CHANGES =
    omega (arith, few_stand c.self.inside.changes.items, c.self.invariant.fits) in
    let fits : length (standing_of c.args.self.now.changes) ≤ MOST_CHANGES =
    subst (λ (e : Edition). length (standing_of e.changes) ≤ MOST_CHANGES) c.self.view_is few in (
      (refl, λ (e : _). tt, c.self.view_is),
      record {
        rests = tt;
        all = all;
        edition = subst (λ (e : Edition). IsEdition e.problem e.changes) c.self.view_is c.self.invariant.edition;
        fits = subst (λ (l : List Fixing). length l ≤ MOST_CHANGES) (sym all) fits;
      },
    )
