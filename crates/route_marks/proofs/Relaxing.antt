-- What a row's operations change, one after another.
use Rattle.std.proofs.Common.{◌≡◌, ℕ, ◌+◌, ◌<◌, ◌≤◌, ◌⊎◌, List, [], ◌∷◌, ◌++◌, length, take, get_or, set, Option, Some, None, refl, sym, ap, subst, ◌∙◌, inl, inr, arith}
use Rattle.std.specs.Prelude.{slice_get, Contains, min}
use Rattle.std.proofs.lemmas.Bool.{cases_lt}
use Rattle.std.proofs.lemmas.Option.{none-some, same_Some, slice_get-get_or, slice_get_within}
use Rattle.std.proofs.lemmas.List.{length-set, take_more, get_or-set_same, get_or-set_other}
use Rattle.std.proofs.lemmas.List.Elements.{Contains-append_left, Contains-push, Contains-push_cases}
use Rattle.disp_model.specs.declared.train.Operation.{Operation}
use Rattle.train_orders.specs.Orders.{IsOrder}
use Rattle.train_orders.proofs.Places.{contains_at, contains_none, set_at, set_elsewhere, same_number}
use Rattle.train_orders.proofs.Ordered.{one_place}
use Rattle.route_marks.specs.Marks.{ArePlaces, lowered, Relaxes, IsLowest}

-- ---- places

pub record ArePlaced (train : List Operation) (order places : List ℕ) (i : ℕ) : Type 0 where
  pub long : length places ≡ length train
  pub at : (k o : ℕ) → slice_get order k ≡ Some o → k < i → get_or places o 0 ≡ k

pub places_more : (train : List Operation) (order places : List ℕ) (i : ℕ) → IsOrder train order → i < length order → ArePlaced train order places i → ArePlaced train order (set places (get_or order i 0) i) (i + 1)
places_more train order places i is lt before = record {
  long = length-set places at i ∙ before.long;
  at = λ k o here less. elim (cases_lt k i) [
    | inl early ↦ get_or-set_other places at o i 0 (λ same. omega (arith, early, one_place train order k i at is (subst (λ (x : ℕ). slice_get order k ≡ Some x) same here) now)) ∙ before.at k o here early
    | inr late ↦
        let place : k ≡ i = omega (arith, less, late) in
        let same : at ≡ o = same_Some at o (sym now ∙ subst (λ (n : ℕ). slice_get order n ≡ Some o) place here) in
        subst (λ (x : ℕ). get_or (set places at i) x 0 ≡ k) same (get_or-set_same places at i 0 inside ∙ sym place)
  ];
}
  where
    at : ℕ
    at = get_or order i 0

    now : slice_get order i ≡ Some at
    now = slice_get-get_or order i 0 lt

    inside : at < length places
    inside = omega (arith, is.is_behind.within at (contains_at order at i now), before.long)

pub places_all : (train : List Operation) (order places : List ℕ) (i : ℕ) → length order ≤ i → ArePlaced train order places i → ArePlaces train order places
places_all train order places i long placed = record { long = placed.long; at = λ k o here. placed.at k o here (omega (arith, long, slice_get_within order k o here)) }

-- ---- sums

lowered_below : (sum : Option ℕ) (through : ℕ) → lowered sum through ≤ through
lowered_below None through = omega arith
lowered_below (Some n) through = omega arith

lowered_least : (sum : Option ℕ) (n through : ℕ) → sum ≡ Some n → lowered sum through ≤ n
lowered_least None n through e = absurd (none-some n e)
lowered_least (Some m) n through e = let same : m ≡ n = same_Some m n e in omega (arith, same)

lowered_from : (sum : Option ℕ) (through : ℕ) → (sum ≡ Some (lowered sum through)) ⊎ (lowered sum through ≡ through)
lowered_from None through = inr refl
lowered_from (Some n) through = elim (cases_lt n through) [
  | inl lt ↦ let least : min n through ≡ n = omega arith in inl (ap Some (sym least))
  | inr ge ↦ inr (omega arith)
]

pub relax_none : (through : ℕ) (sums : List (Option ℕ)) → Relaxes [] through sums sums
relax_none through sums = record { long = refl; from = λ o n is. inl is; kept = λ o n is. (n, is, omega arith); lower = λ o there. absurd (contains_none o there) }

pub relax_more : (row : List ℕ) (through i at sum : ℕ) (read : Option ℕ) (old mid : List (Option ℕ)) → i < length row → at ≡ get_or row i 0 → at < length mid → slice_get mid at ≡ Some read → sum ≡ lowered read through
    → Relaxes (take i row) through old mid → Relaxes (take (i + 1) row) through old (set mid at (Some sum))
relax_more row through i at sum read old mid lt is within reads value before = rw (take_more row i 0 lt) (record {
  long = length-set mid at (Some sum) ∙ before.long;
  from = λ o n here. elim (same_number o at) [
    | inl e ↦ own o n e (same_Some (Some sum) (Some n) (sym (set_at mid at (Some sum) within) ∙ subst (λ (x : ℕ). slice_get (set mid at (Some sum)) x ≡ Some (Some n)) e here))
    | inr other ↦ older o n (before.from o n (sym (set_elsewhere mid at o (Some sum) other) ∙ here))
  ];
  kept = λ o n was. let then = before.kept o n was in elim (same_number o at) [
    | inl e ↦ (sum, now o e, omega (arith, then.2, value, lowered_least read then.0 through (same_Some read (Some then.0) (sym reads ∙ subst (λ (x : ℕ). slice_get mid x ≡ Some (Some then.0)) e then.1))))
    | inr other ↦ (then.0, set_elsewhere mid at o (Some sum) other ∙ then.1, then.2)
  ];
  lower = λ o there. elim (Contains-push_cases (take i row) x o there) [
    | inr e ↦ (sum, now o (sym e ∙ sym is), omega (arith, value, lowered_below read through))
    | inl early ↦ let then = before.lower o early in elim (same_number o at) [
      | inl e ↦ (sum, now o e, omega (arith, value, lowered_below read through))
      | inr other ↦ (then.0, set_elsewhere mid at o (Some sum) other ∙ then.1, then.2)
    ]
  ];
})
  where
    x : ℕ
    x = get_or row i 0

    now : (o : ℕ) → o ≡ at → slice_get (set mid at (Some sum)) o ≡ Some (Some sum)
    now o e = subst (λ (y : ℕ). slice_get (set mid at (Some sum)) y ≡ Some (Some sum)) (sym e) (set_at mid at (Some sum) within)

    older : (o n : ℕ) → (slice_get old o ≡ Some (Some n)) ⊎ (Contains (take i row) o × (n ≡ through)) → (slice_get old o ≡ Some (Some n)) ⊎ (Contains (take i row ++ x ∷ []) o × (n ≡ through))
    older o n (inl was) = inl was
    older o n (inr h) = inr (Contains-append_left (take i row) (x ∷ []) o h.0, h.1)

    own : (o n : ℕ) → o ≡ at → Some sum ≡ Some n → (slice_get old o ≡ Some (Some n)) ⊎ (Contains (take i row ++ x ∷ []) o × (n ≡ through))
    own o n e s = elim (lowered_from read through) [
      | inl same ↦ older o n (before.from o n (subst (λ (y : ℕ). slice_get mid y ≡ Some (Some n)) (sym e) (reads ∙ ap Some (same ∙ ap Some (sym value) ∙ s))))
      | inr same ↦ inr (subst (λ (y : ℕ). Contains (take i row ++ x ∷ []) y) (sym is ∙ sym e) (Contains-push (take i row) x), sym (same_Some sum n s) ∙ value ∙ same)
    ]

-- ---- the nearest place

pub lowest_none : (places : List ℕ) (reach : ℕ) → IsLowest places reach [] reach
lowest_none places reach = record { most = omega arith; each = λ s there. absurd (contains_none s there); from = inl refl }

pub lowest_more : (places row : List ℕ) (reach i least read more : ℕ) → i < length row → read ≡ get_or places (get_or row i 0) 0 → more ≡ min least read → IsLowest places reach (take i row) least → IsLowest places reach (take (i + 1) row) more
lowest_more places row reach i least read more lt reads is before = rw (take_more row i 0 lt) (record {
  most = omega (arith, is, before.most);
  each = λ s there. elim (Contains-push_cases (take i row) x s there) [
    | inl early ↦ omega (arith, is, before.each s early)
    | inr e ↦ subst (λ (y : ℕ). more ≤ get_or places y 0) e (omega (arith, is, reads))
  ];
  from = elim (cases_lt read least) [
    | inl lower ↦ inr (x, Contains-push (take i row) x, (let same : more ≡ read = omega (arith, is, lower) in same ∙ reads))
    | inr above ↦ older (let same : more ≡ least = omega (arith, is, above) in same) before.from
  ];
})
  where
    x : ℕ
    x = get_or row i 0

    older : more ≡ least → (least ≡ reach) ⊎ ((s : ℕ) × Contains (take i row) s × (least ≡ get_or places s 0)) → (more ≡ reach) ⊎ ((s : ℕ) × Contains (take i row ++ x ∷ []) s × (more ≡ get_or places s 0))
    older same (inl e) = inl (same ∙ e)
    older same (inr h) = inr (h.0, Contains-append_left (take i row) (x ∷ []) h.0 h.1, same ∙ h.2)
