-- What is kept beside the places, where one of them is replaced.
use Rattle.std.proofs.Common.{◌≡◌, ◌∙◌, ℕ, ◌+◌, ◌-◌, ◌≤◌, List, inl, inr, get_or, set, refl, sym, ap, subst, eq-eqb, arith}
use Rattle.std.specs.Prelude.{Option, Some, None, slice_get, sum_by, IfSome, Bool, if◌then◌else◌}
use Rattle.std.proofs.lemmas.Bool.{cases_eq}
use Rattle.std.proofs.lemmas.Option.{same_Some, slice_get_within, get_or_from_slice_get}
use Rattle.std.proofs.lemmas.List.Sums.{sum_by-set}
use Rattle.open_nodes.specs.declared.place.Place.{Place}
use Rattle.open_nodes.specs.declared.place.Errand.{Errand}
use Rattle.open_nodes.specs.States.{above_at, above_of, allowance_for, with_out, with_places, marked, decisions_of, State, IsIn, IsOut, Sends, ComesBack, ArePlacesKept}
use Rattle.open_nodes.specs.declared.work.Work.{Work}
use Rattle.disp_model.specs.declared.decision.Decision.{Decision}
use Rattle.open_nodes.proofs.Places.{get_set_same, get_set_other}

module _ (places : List Place) (edition allowed n : ℕ) (p q : Place) (there : slice_get places n ≡ Some p) where
  pub same_above : p.above ≡ q.above → (m : ℕ) → above_at (set places n q) m ≡ above_at places m
  same_above e m = elim (cases_eq m n) [
    | inl same ↦ subst (λ (k : ℕ). above_at (set places n q) k ≡ above_at places k) (sym same)
        (ap above_of (get_set_same places n q p there) ∙ sym e ∙ sym (ap above_of there))
    | inr other ↦ ap above_of (get_set_other places n m q other)
  ]

  allowances : sum_by (λ (r : Place). allowance_for edition r.out) (set places n q) + allowance_for edition p.out
      ≡ sum_by (λ (r : Place). allowance_for edition r.out) places + allowance_for edition q.out
  allowances =
      let same : sum_by (λ (r : Place). allowance_for edition r.out) (set places n q) + allowance_for edition (get_or places n p).out
      ≡ sum_by (λ (r : Place). allowance_for edition r.out) places + allowance_for edition q.out =
      sum_by-set {X = Place} (λ (r : Place). allowance_for edition r.out) places n q p (slice_get_within places n p there) in
      let here : allowance_for edition (get_or places n p).out ≡ allowance_for edition p.out =
      ap (λ (r : Place). allowance_for edition r.out) (get_or_from_slice_get places n p p there) in
      omega (arith, same, here)

  pub kept_set : ArePlacesKept places edition allowed → p.above ≡ q.above → (now : ℕ)
      → now + allowance_for edition p.out ≡ allowed + allowance_for edition q.out → now ≤ 4294967295
      → ((errand : Errand) → q.out ≡ Some errand → errand.edition ≤ edition) → ArePlacesKept (set places n q) edition now
  kept_set k e now sum limit older = record {
    parents = λ m above is. k.parents m above (sym (same_above e m) ∙ is);
    sum = omega (arith, k.sum, sum, allowances);
    limit = limit;
    older = λ m place errand at out. elim (cases_eq m n) [
      | inl same ↦
          let is : q ≡ place = same_Some q place (sym (get_set_same places n q p there) ∙ ap (λ (j : ℕ). slice_get (set places n q) j) (sym same) ∙ at) in
          older errand (ap (λ (r : Place). r.out) is ∙ out)
      | inr other ↦ k.older m place errand (sym (get_set_other places n m q other) ∙ at) out
    ];
  }

  pub allowed_of_one : ArePlacesKept places edition allowed → allowance_for edition q.out ≡ 0 → allowance_for edition p.out ≤ allowed
  allowed_of_one k none = omega (arith, k.sum, none, allowances)

pub same_edition : (edition : ℕ) (errand : Errand) → errand.edition ≡ edition → allowance_for edition (Some errand) ≡ errand.allowance
same_edition edition errand e = rw (eq-eqb errand.edition edition e) refl

-- a place that is read is the one that is there
pub read : (places : List Place) (n : ℕ) (p x : Place) → slice_get places n ≡ Some p → x ≡ get_or places n x → p ≡ x
read places n p x there is = sym (is ∙ get_or_from_slice_get places n p x there)

pub there_read : (places : List Place) (n : ℕ) (p x : Place) → slice_get places n ≡ Some p → x ≡ get_or places n x → slice_get places n ≡ Some x
there_read places n p x there is = there ∙ ap Some (read places n p x there is)

pub sent_kept : (places : List Place) (edition allowed n : ℕ) (x : Place) (errand : Errand) (now : ℕ) → IsIn places n → x ≡ get_or places n x
    → ArePlacesKept places edition allowed → errand.edition ≡ edition → now ≡ allowed + errand.allowance → now ≤ 4294967295
    → ArePlacesKept (set places n (with_out x (Some errand))) edition now
sent_kept places edition allowed n x errand now i is k e sum limit =
    let none : x.out ≡ None = ap (λ (r : Place). r.out) (sym (read places n i.place x i.there is)) ∙ i.inside in
    let zero_out : allowance_for edition x.out ≡ 0 = ap (allowance_for edition) none in
    kept_set places edition allowed n x (with_out x (Some errand)) (there_read places n i.place x i.there is) k refl now
    (omega (arith, sum, zero_out, same_edition edition errand e)) limit
    (λ other out. omega (arith, e, ap (λ (r : Errand). r.edition) (same_Some errand other out)))

pub back_few : (places : List Place) (edition allowed n : ℕ) (p x : Place) → slice_get places n ≡ Some p → x ≡ get_or places n x
    → ArePlacesKept places edition allowed → allowance_for edition x.out ≤ allowed
back_few places edition allowed n p x there is k = allowed_of_one places edition allowed n x (marked x None) (there_read places n p x there is) k refl

pub back_kept : (places : List Place) (edition allowed n : ℕ) (p x : Place) (mark : Option ℕ) (less : ℕ) → slice_get places n ≡ Some p → x ≡ get_or places n x
    → ArePlacesKept places edition allowed → less ≡ allowance_for edition x.out
    → ArePlacesKept (set places n (marked x mark)) edition (allowed - less)
back_kept places edition allowed n p x mark less there is k e =
    let few = back_few places edition allowed n p x there is k in
    kept_set places edition allowed n x (marked x mark) (there_read places n p x there is) k refl (allowed - less)
    (omega (arith, e, few)) (omega (arith, k.limit)) (λ errand out. absurd (subst (λ (o : Option Errand). IfSome o (λ _. ⊥)) out tt))

module _ (state now : State) (same : state ≡ now) where
  pub sends_at : (n : ℕ) (x : Place) (decisions : List Decision) (errand : Errand) (best : Option ℕ) (seen allowance : ℕ)
      → IsIn state.places n → x ≡ get_or state.places n x → decisions ≡ decisions_of state.places n
      → errand ≡ record { bound = x.bound; edition = state.edition; best = best; seen = seen; allowance = allowance }
      → Sends now n best seen allowance (record { node = n; bound = x.bound; edition = state.edition; decisions = decisions; best = best; seen = seen; allowance = allowance })
      (with_places state (set state.places n (with_out x (Some errand))))
  sends_at n x decisions errand best seen allowance i is d e =
      subst (λ (t : State). Sends t n best seen allowance (record { node = n; bound = x.bound; edition = state.edition; decisions = decisions; best = best; seen = seen; allowance = allowance })
      (with_places state (set state.places n (with_out x (Some errand))))) same
      (record {
        place = x;
        there = there_read state.places n i.place x i.there is;
        work_is = ap (λ (ds : List Decision). record { node = n; bound = x.bound; edition = state.edition; decisions = ds; best = best; seen = seen; allowance = allowance }) d;
        after_is = ap (λ (r : Errand). with_places state (set state.places n (with_out x (Some r)))) e;
      })

  pub comes_back : (work : Work) (examined : Bool) (p x : Place) (mark : Option ℕ) → IsOut state.places work p → x ≡ get_or state.places work.node x
      → mark ≡ (if examined then Some work.edition else x.examined)
      → ComesBack now work examined (with_places state (set state.places work.node (marked x mark)))
  comes_back work examined p x mark out is e =
      subst (λ (t : State). ComesBack t work examined (with_places state (set state.places work.node (marked x mark)))) same
      (record {
        place = x;
        is_out = subst (λ (r : Place). IsOut state.places work r) (read state.places work.node p x out.there is) out;
        after_is = ap (λ (m : Option ℕ). with_places state (set state.places work.node (marked x m))) e;
      })
