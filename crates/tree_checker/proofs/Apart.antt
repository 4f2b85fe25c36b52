-- Elements of a list with numbers of their own, one element after another.
use Rattle.std.proofs.Common.{◌≡◌, ◌≢◌, ◌∙◌, ℕ, ◌+◌, ◌<◌, ◌≤◌, List, [], length, get_or, Some, Bool, true, false, refl, sym, ap, subst, inl, inr, arith}
use Rattle.std.specs.Prelude.{◌⊎◌, IsTrue, not, slice_get}
use Rattle.std.specs.BTreeMap.{is_at}
use Rattle.std.specs.declared.cmp.Ordering.{Ordering}
use Rattle.std.specs.declared.cmp.Ordering.TheVariants.{Less, Equal, Greater}
use Rattle.std.specs.Ordering.{is_eq, nat_cmp}
use Rattle.std.proofs.lemmas.Bool.{cases_Bool, false≢true, cases_lt}
use Rattle.std.proofs.lemmas.Option.{same_Some, slice_get_read, slice_get_within}
use Rattle.std.proofs.lemmas.Map.Lookups.{exact_unsigned}
use Rattle.tree_checker.specs.Seen.{has_number, IsNumbered, AreSeen}

equal : (r : Ordering) → is_eq r ≡ true → r ≡ Equal
equal Less h = absurd (false≢true h)
equal Equal h = refl
equal Greater h = absurd (false≢true h)

-- the set has one number more, unless it had it
abbrev pub TakesNumber : ℕ → List ℕ → List ℕ → Type 0
TakesNumber n old new = (has_number new n ≡ true) × ((q : ℕ) → is_at (nat_cmp n) q ≡ false → has_number new q ≡ has_number old q)

module _ {X : Type 0} (number_of : X → ℕ) (xs : List X) where
  -- no two of the first so many elements have one number
  abbrev pub AreApart : ℕ → Type 0
  AreApart count = (i j : ℕ) (v w : X) → j < count → i < j → slice_get xs i ≡ Some v → slice_get xs j ≡ Some w → number_of v ≢ number_of w

  pub none_seen : (keys : List ℕ) → keys ≡ [] → AreSeen number_of xs 0 keys
  none_seen keys none = rw none (record { are = λ n. (λ h. absurd (false≢true h), λ among. absurd (omega (arith, among.before))) })

  module _ (count : ℕ) (x : X) (there : slice_get xs count ≡ Some x) (old : List ℕ) (seen : AreSeen number_of xs count old) where
    pub seen_more : (new : List ℕ) → TakesNumber (number_of x) old new → AreSeen number_of xs (count + 1) new
    seen_more new takes = record { are = λ n. (λ h. onward n h (cases_Bool (is_at (nat_cmp (number_of x)) n)), λ among. back n among (cases_Bool (is_at (nat_cmp (number_of x)) n))) }
      where
        onward : (n : ℕ) → IsTrue (has_number new n) → (is_at (nat_cmp (number_of x)) n ≡ true) ⊎ (is_at (nat_cmp (number_of x)) n ≡ false) → IsNumbered number_of xs (count + 1) n
        onward n h (inl is) = record { place = count; element = x; before = omega arith; at = there; is = exact_unsigned (number_of x) n (equal _ is) }
        onward n h (inr not) =
            let early = (seen.are n).0 (sym (takes.1 n not) ∙ h) in
            record { place = early.place; element = early.element; before = omega (arith, early.before); at = early.at; is = early.is }

        back : (n : ℕ) → IsNumbered number_of xs (count + 1) n → (is_at (nat_cmp (number_of x)) n ≡ true) ⊎ (is_at (nat_cmp (number_of x)) n ≡ false) → IsTrue (has_number new n)
        back n among (inl is) = subst (λ (m : ℕ). has_number new m ≡ true) (exact_unsigned (number_of x) n (equal _ is)) takes.0
        back n among (inr other) = elim (cases_lt among.place count) [
          | inl early ↦ takes.1 n other ∙ (seen.are n).1 (record { place = among.place; element = among.element; before = early; at = among.at; is = among.is })
          | inr late ↦
              let here : among.place ≡ count = omega (arith, among.before, late) in
              let same : x ≡ among.element = same_Some x among.element (sym there ∙ subst (λ (p : ℕ). slice_get xs p ≡ Some among.element) here among.at) in
              subst (λ (m : ℕ). has_number new m ≡ true) (ap number_of same ∙ among.is) takes.0
        ]

    -- what is seen already is there twice
    pub seen_twice : has_number old (number_of x) ≡ true → ((i j : ℕ) (v w : X) → i < j → slice_get xs i ≡ Some v → slice_get xs j ≡ Some w → number_of v ≢ number_of w) → ⊥
    seen_twice had apart = let early = (seen.are (number_of x)).0 had in apart early.place count early.element x early.before early.at there early.is

    -- what is not is apart from all before it
    pub apart_more : has_number old (number_of x) ≡ false → AreApart count → AreApart (count + 1)
    apart_more new apart i j v w within lt at_i at_j = elim (cases_lt j count) [
      | inl early ↦ apart i j v w early lt at_i at_j
      | inr late ↦ λ same.
          let here : j ≡ count = omega (arith, within, late) in
          let is : x ≡ w = same_Some x w (sym there ∙ subst (λ (p : ℕ). slice_get xs p ≡ Some w) here at_j) in
          let had = (seen.are (number_of x)).1 (record { place = i; element = v; before = omega (arith, lt, here); at = at_i; is = same ∙ sym (ap number_of is) }) in
          false≢true (sym new ∙ had)
    ]

  -- the element of a place that was read
  pub read_at : (i : ℕ) (x : X) → i < length xs → x ≡ get_or xs i x → slice_get xs i ≡ Some x
  read_at i x lt is = slice_get_read xs (length xs) i x refl lt is

  pub all_apart : (count : ℕ) → length xs ≤ count → AreApart count → (i j : ℕ) (v w : X) → i < j → slice_get xs i ≡ Some v → slice_get xs j ≡ Some w → number_of v ≢ number_of w
  all_apart count past apart i j v w lt at_i at_j = apart i j v w (omega (arith, past, slice_get_within xs j w at_j)) lt at_i at_j

-- what an answer says that is the contrary
pub was_in : (added had : Bool) → added ≡ not had → added ≡ false → had ≡ true
was_in added true is e = refl
was_in added false is e = absurd (false≢true (sym e ∙ is))

pub was_new : (added had : Bool) → added ≡ not had → added ≡ true → had ≡ false
was_new added true is e = absurd (false≢true (sym is ∙ e))
was_new added false is e = refl
