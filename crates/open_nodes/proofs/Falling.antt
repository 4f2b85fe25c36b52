-- A newer edition, and a leaf that falls back: what is kept beside the places.
use Rattle.std.proofs.Common.{◌≡◌, ◌≢◌, ℕ, suc, ◌<◌, ◌≤◌, List, [], ◌∷◌, set, refl, sym, subst, arith, ne_eqb}
use Rattle.std.specs.Prelude.{Option, Some, None, slice_get, sum_by}
use Rattle.std.proofs.lemmas.List.Sums.{sum_by-cons}
use Rattle.open_nodes.specs.declared.place.Place.{Place}
use Rattle.open_nodes.specs.declared.place.Errand.{Errand}
use Rattle.open_nodes.specs.declared.place.Kind.{Kind}
use Rattle.open_nodes.specs.declared.place.Kind.TheVariants.{Open, Dead, Branch}
use Rattle.open_nodes.specs.States.{allowance_for, ArePlacesKept}
use Rattle.open_nodes.specs.Shown.{fallen, fallen_by, fallen_in}
use Rattle.open_nodes.proofs.Keeping.{kept_set}

none_for : (later : ℕ) (o : Option Errand) → ((errand : Errand) → o ≡ Some errand → errand.edition < later) → allowance_for later o ≡ 0
none_for later None old = refl
none_for later (Some errand) old =
    let less : errand.edition < later = old errand refl in
    rw (ne_eqb errand.edition later (λ e. omega (arith, less, e))) refl

none_out : (later : ℕ) (places : List Place) → ((n : ℕ) (p : Place) (errand : Errand) → slice_get places n ≡ Some p → p.out ≡ Some errand → errand.edition < later)
    → sum_by (λ (p : Place). allowance_for later p.out) places ≡ 0
none_out later [] old = refl
none_out later (p ∷ places) old =
    let first : allowance_for later p.out ≡ 0 = none_for later p.out (λ errand out. old 0 p errand refl out) in
    let rest : sum_by (λ (q : Place). allowance_for later q.out) places ≡ 0 = none_out later places (λ n. old (suc n)) in
    omega (arith, sum_by-cons (λ (q : Place). allowance_for later q.out) p places, first, rest)

module _ (places : List Place) (edition allowed : ℕ) (k : ArePlacesKept places edition allowed) where
  pub rebased_kept : (later : ℕ) → edition < later → ArePlacesKept places later 0
  rebased_kept later less = record {
    parents = k.parents;
    sum = sym (none_out later places (λ n p errand at out. let le : errand.edition ≤ edition = k.older n p errand at out in omega (arith, le, less)));
    limit = omega arith;
    older = λ n p errand at out. let le : errand.edition ≤ edition = k.older n p errand at out in omega (arith, le, less);
  }

  pub fallen_kept : (n : ℕ) (x : Place) → slice_get places n ≡ Some x → ArePlacesKept (set places n (fallen x)) edition allowed
  fallen_kept n x there = kept_set places edition allowed n x (fallen x) there k refl allowed refl k.limit (λ errand out. k.older n x errand there out)

module _ (places : List Place) (n : ℕ) (x : Place) where
  by_kind : (kind : Kind) → kind ≢ Branch → set places n (fallen x) ≡ fallen_by places n x kind
  by_kind Branch other = absurd (other refl)
  by_kind Dead other = refl
  by_kind Open other = refl

  pub fallen_is : slice_get places n ≡ Some x → x.kind ≢ Branch → set places n (fallen x) ≡ fallen_in places n (slice_get places n)
  fallen_is there other = subst (λ (o : Option Place). set places n (fallen x) ≡ fallen_in places n o) (sym there) (by_kind x.kind other)
