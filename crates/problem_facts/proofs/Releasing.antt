-- Release times of shared resources.
use Rattle.std.proofs.Common.{◌≡◌, ℕ, ◌+◌, ◌<◌, List, [], ◌∷◌, ◌++◌, length, take, get_or, Option, Some, None, sym, ap, ◌∙◌, arith}
use Rattle.std.specs.Prelude.{max, MatchOption, ◌==◌}
use Rattle.std.specs.List.{list_any}
use Rattle.std.proofs.lemmas.List.{take_more}
use Rattle.std.proofs.lemmas.List.Elements.{filter-append}
use Rattle.disp_model.specs.declared.train.Op.{Op}
use Rattle.disp_model.specs.declared.train.Listing.{Listing}
use Rattle.disp_model.specs.declared.problem.Problem.{Problem}
use Rattle.disp_model.specs.WellFormed.{greatest_release}
use Rattle.disp_model.specs.Arcs.{listings_of, shared_listings, Conflicts}
use Rattle.problem_facts.specs.Conflicts.{IsShared, IsConflict}

pub greatest_push : (listings : List Listing) (l : Listing) → greatest_release (listings ++ l ∷ []) ≡ max (greatest_release listings) l.release
greatest_push [] l = omega arith
greatest_push (k ∷ listings) l = omega (arith, greatest_push listings l)

pub not_none : (listings : List Listing) (l : Listing) → listings ++ l ∷ [] ≡ [] → ⊥
not_none [] l e = absurd cc
not_none (k ∷ listings) l e = absurd cc

pub shared_more : (listings others : List Listing) (i : ℕ) (d : Listing) → i < length listings
    → shared_listings (take (i + 1) listings) others ≡ shared_listings (take i listings) others ++ shared_listings (get_or listings i d ∷ []) others
shared_more listings others i d lt =
    ap (λ (l : List Listing). shared_listings l others) (take_more listings i d lt) ∙ filter-append (λ l. list_any (λ k. k.resource == l.resource) others) (take i listings) (get_or listings i d ∷ [])

pub conflict_is : (problem : Problem) (a b : Op) (first second : List Listing) (found : Option ℕ) → (a.train ≡ b.train → ⊥) → first ≡ listings_of problem a → second ≡ listings_of problem b → IsShared (shared_listings first second) found
    → MatchOption found (Conflicts problem a b → ⊥) (IsConflict problem a b)
conflict_is problem a b first second None apart one two shared = λ conflicts. conflicts.shared (sym lists ∙ shared)
  where
    lists : shared_listings first second ≡ shared_listings (listings_of problem a) (listings_of problem b)
    lists = ap (λ (l : List Listing). shared_listings l second) one ∙ ap (λ (l : List Listing). shared_listings (listings_of problem a) l) two
conflict_is problem a b first second (Some release) apart one two shared = record {
  conflicts = record { trains = apart; shared = λ none. shared.0 (lists ∙ none) };
  release_is = shared.1 ∙ ap greatest_release lists;
}
  where
    lists : shared_listings first second ≡ shared_listings (listings_of problem a) (listings_of problem b)
    lists = ap (λ (l : List Listing). shared_listings l second) one ∙ ap (λ (l : List Listing). shared_listings (listings_of problem a) l) two
