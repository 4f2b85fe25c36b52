use Rattle.std.proofs.Common.{◌≡◌, ℕ, ◌<◌, Some}
use Rattle.std.specs.Prelude.{slice_get}
use Rattle.std.specs.List.{Any}
use Rattle.disp_model.specs.declared.train.Listing.{Listing}
use Rattle.solution_verifier.specs.Held.{HasPassed}
use Rattle.solution_verifier.proofs.held.held_resource.Given as goal

abbrev pub invariant-loop-listing : goal.invariant-loop-listing
invariant-loop-listing l =
    (m : ℕ) (k : Listing) → m < l.listing-index → slice_get l.listings m ≡ Some k
    → Any (λ o. o.resource ≡ k.resource) l.others → HasPassed l.end k.release l.time
