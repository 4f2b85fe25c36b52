-- The places that are kept of orders, when a decision is put behind and when it is taken back.
use Rattle.std.proofs.Common.{◌≡◌, ◌∙◌, ℕ, zero, suc, ◌<◌, ◌≤◌, List, [], ◌∷◌, ◌++◌, length, Option, Some, None, true, false, refl, sym, ap, subst, inl, inr, arith}
use Rattle.std.specs.Prelude.{◌⊎◌, Contains, slice_get}
use Rattle.std.specs.BTreeMap.{is_at}
use Rattle.std.specs.declared.cmp.Ordering.{Ordering}
use Rattle.std.specs.Ordering.{is_eq, nat_cmp}
use Rattle.std.specs.declared.cmp.Ordering.TheVariants.{Less, Equal, Greater}
use Rattle.std.proofs.lemmas.Bool.{cases_Bool, false≢true}
use Rattle.std.proofs.lemmas.Option.{none-some, same_Some, slice_get_within, slice_get-get_or, get_or_from_slice_get}
use Rattle.std.proofs.lemmas.Map.Lookups.{CmpEqualImpliesEq, exact_pairs, exact_unsigned}
use Rattle.disp_model.specs.declared.train.Op.{Op}
use Rattle.disp_model.specs.declared.decision.Decision.{Decision}
use Rattle.disp_model.specs.declared.decision.Decision.TheVariants.{First}
use Rattle.decision_paths.specs.Kept.{op_cmp, pair_cmp, place_in, AreFirsts}

-- ---- one more element

get_early : {X : Type 0} (xs : List X) (x : X) (k : ℕ) (y : X) → slice_get xs k ≡ Some y → slice_get (xs ++ x ∷ []) k ≡ Some y
get_early [] x k y e = absurd (none-some y e)
get_early (z ∷ xs) x zero y e = e
get_early (z ∷ xs) x (suc k) y e = get_early xs x k y e

get_last : {X : Type 0} (xs : List X) (x : X) → slice_get (xs ++ x ∷ []) (length xs) ≡ Some x
get_last [] x = refl
get_last (z ∷ xs) x = get_last xs x

get_parts : {X : Type 0} (xs : List X) (x : X) (k : ℕ) (y : X) → slice_get (xs ++ x ∷ []) k ≡ Some y → (slice_get xs k ≡ Some y) ⊎ ((k ≡ length xs) × (y ≡ x))
get_parts [] x zero y e = inr (refl, sym (same_Some x y e))
get_parts [] x (suc k) y e = absurd (none-some y e)
get_parts (z ∷ xs) x zero y e = inl e
get_parts (z ∷ xs) x (suc k) y e = elim (get_parts xs x k y e) [ inl early ↦ inl early | inr last ↦ inr (omega (arith, last.0), last.1) ]

-- ---- keys

equal : (r : Ordering) → is_eq r ≡ true → r ≡ Equal
equal Less h = absurd (false≢true h)
equal Equal h = refl
equal Greater h = absurd (false≢true h)

exact_op : CmpEqualImpliesEq op_cmp
exact_op a b h = ap (λ (p : ℕ × ℕ). record { train = p.0; op = p.1 }) (exact_pairs nat_cmp nat_cmp exact_unsigned exact_unsigned (a.train, a.op) (b.train, b.op) h)

same_pair : (a b c d : Op) → is_at (pair_cmp (a, b)) (c, d) ≡ true → (a ≡ c) × (b ≡ d)
same_pair a b c d h =
    let e = exact_pairs op_cmp op_cmp exact_op exact_op (a, b) (c, d) (equal _ h) in
    (ap (λ (p : Op × Op). p.0) e, ap (λ (p : Op × Op). p.1) e)

same_order : (a b c d : Op) → First c d ≡ First a b → (a ≡ c) × (b ≡ d)
same_order a b c d e = (cc e, cc e)

-- what holds of an order holds of one with the same operations
at_same : (P : Op → Op → Type 0) (a b c d : Op) → (a ≡ c) × (b ≡ d) → P a b → P c d
at_same P a b c d same h = subst (λ (y : Op). P c y) same.1 (subst (λ (x : Op). P x b) same.0 h)

-- ---- what is kept

-- what is kept of other orders stays
abbrev pub OthersStay : Op → Op → List ((Op × Op) × ℕ) → List ((Op × Op) × ℕ) → Type 0
OthersStay a b old new = (c d : Op) → is_at (pair_cmp (a, b)) (c, d) ≡ false → place_in new c d ≡ place_in old c d

look : (a b : Op) (old new : List ((Op × Op) × ℕ)) → OthersStay a b old new → (c d : Op) → ((a ≡ c) × (b ≡ d)) ⊎ (place_in new c d ≡ place_in old c d)
look a b old new others c d = elim (cases_Bool (is_at (pair_cmp (a, b)) (c, d))) [ inl is ↦ inl (same_pair a b c d is) | inr not ↦ inr (others c d not) ]

-- what the place of an order is, of one with the same operations
place_same : (orders : List ((Op × Op) × ℕ)) (o : Option ℕ) (a b c d : Op) → (a ≡ c) × (b ≡ d) → place_in orders a b ≡ o → place_in orders c d ≡ o
place_same orders o a b c d same h = at_same (λ x y. place_in orders x y ≡ o) a b c d same h

place_back : (orders : List ((Op × Op) × ℕ)) (o : Option ℕ) (a b c d : Op) → (a ≡ c) × (b ≡ d) → place_in orders c d ≡ o → place_in orders a b ≡ o
place_back orders o a b c d same h = place_same orders o c d a b (sym same.0, sym same.1) h

not_both : (o : Option ℕ) (k : ℕ) → o ≡ None → o ≡ Some k → ⊥
not_both o k none some = none-some k (sym none ∙ some)

pub firsts_none : (orders : List ((Op × Op) × ℕ)) → orders ≡ [] → AreFirsts [] orders
firsts_none orders is = subst (λ (l : List ((Op × Op) × ℕ)). AreFirsts [] l) (sym is) (record {
  there = λ a b k e. absurd (none-some k e);
  first = λ a b k e. absurd (none-some (First a b) e);
})

module _ (decisions : List Decision) (a b : Op) where
  abbrev more : List Decision
  more = decisions ++ First a b ∷ []

  -- an order that stood in no place is put behind
  pub firsts_noted : (old new : List ((Op × Op) × ℕ)) (place : ℕ) → length decisions ≡ place → AreFirsts decisions old → place_in old a b ≡ None → place_in new a b ≡ Some place → OthersStay a b old new → AreFirsts more new
  firsts_noted old new place long are none own others = record {
    there = λ c d k e. elim (look a b old new others c d) [
      | inl same ↦
          let k_is : length decisions ≡ k = long ∙ same_Some place k (sym own ∙ place_back new (Some k) a b c d same e) in
          at_same (λ x y. slice_get more k ≡ Some (First x y)) a b c d same (subst (λ (n : ℕ). slice_get more n ≡ Some (First a b)) k_is (get_last decisions (First a b)))
      | inr stays ↦ get_early decisions (First a b) k (First c d) (are.there c d k (sym stays ∙ e))
    ];
    first = λ c d k e. elim (get_parts decisions (First a b) k (First c d) e) [
      | inl early ↦
          let f = are.first c d k early in
          elim (look a b old new others c d) [
            | inl same ↦ absurd (not_both _ f.0 none (place_back old (Some f.0) a b c d same f.1))
            | inr stays ↦ (f.0, stays ∙ f.1, f.2)
          ]
      | inr last ↦ (place, place_same new (Some place) a b c d (same_order a b c d last.1) own, omega (arith, last.0, long))
    ];
  }

  -- an order that stands in a place is put behind once more
  pub firsts_again : (orders : List ((Op × Op) × ℕ)) (i : ℕ) → AreFirsts decisions orders → place_in orders a b ≡ Some i → AreFirsts more orders
  firsts_again orders i are own = record {
    there = λ c d k e. get_early decisions (First a b) k (First c d) (are.there c d k e);
    first = λ c d k e. elim (get_parts decisions (First a b) k (First c d) e) [
      | inl early ↦ are.first c d k early
      | inr last ↦ (i, place_same orders (Some i) a b c d (same_order a b c d last.1) own, omega (arith, last.0, slice_get_within decisions i (First a b) (are.there a b i own)))
    ];
  }

  -- an order that stood nowhere before is taken back
  pub firsts_forgot : (old new : List ((Op × Op) × ℕ)) (n : ℕ) → AreFirsts more old → place_in old a b ≡ Some n → length decisions ≤ n → place_in new a b ≡ None → OthersStay a b old new → AreFirsts decisions new
  firsts_forgot old new n are stood late none others = record {
    there = λ c d k e. elim (look a b old new others c d) [
      | inl same ↦ absurd (not_both _ k none (place_back new (Some k) a b c d same e))
      | inr stays ↦ elim (get_parts decisions (First a b) k (First c d) (are.there c d k (sym stays ∙ e))) [
        | inl early ↦ early
        | inr last ↦ absurd (not_both _ k none (place_back new (Some k) a b c d (same_order a b c d last.1) e))
      ]
    ];
    first = λ c d k e.
        let f = are.first c d k (get_early decisions (First a b) k (First c d) e) in
        elim (look a b old new others c d) [
          | inl same ↦ absurd (omega (arith, late, same_Some n f.0 (sym stood ∙ place_back old (Some f.0) a b c d same f.1), f.2, slice_get_within decisions k (First c d) e))
          | inr stays ↦ (f.0, stays ∙ f.1, f.2)
        ];
  }

  -- an order that stands in a place before is taken back
  pub firsts_kept : (orders : List ((Op × Op) × ℕ)) (i : ℕ) → AreFirsts more orders → place_in orders a b ≡ Some i → i < length decisions → AreFirsts decisions orders
  firsts_kept orders i are own lt = record {
    there = λ c d k e. elim (get_parts decisions (First a b) k (First c d) (are.there c d k e)) [
      | inl early ↦ early
      | inr last ↦ absurd (omega (arith, lt, last.0, same_Some i k (sym own ∙ place_back orders (Some k) a b c d (same_order a b c d last.1) e)))
    ];
    first = λ c d k e. are.first c d k (get_early decisions (First a b) k (First c d) e);
  }

  -- what is put behind has a place
  pub firsts_placed : (orders : List ((Op × Op) × ℕ)) → AreFirsts more orders → place_in orders a b ≡ None → ⊥
  firsts_placed orders are none = let f = are.first a b (length decisions) (get_last decisions (First a b)) in not_both _ f.0 none f.1

-- what is of no number is not there
pub none_of : (o : Option ℕ) → ((k : ℕ) → o ≡ Some k → ⊥) → o ≡ None
none_of None not = refl
none_of (Some k) not = absurd (not k refl)

-- a decision that is no order
abbrev pub IsNoOrder : Decision → Type 0
IsNoOrder decision = (a b : Op) → decision ≡ First a b → ⊥

pub firsts_other : (decisions : List Decision) (decision : Decision) (orders : List ((Op × Op) × ℕ)) → IsNoOrder decision → AreFirsts decisions orders → AreFirsts (decisions ++ decision ∷ []) orders
firsts_other decisions decision orders not are = record {
  there = λ c d k e. get_early decisions decision k (First c d) (are.there c d k e);
  first = λ c d k e. elim (get_parts decisions decision k (First c d) e) [ inl early ↦ are.first c d k early | inr last ↦ absurd (not c d (sym last.1)) ];
}

pub firsts_without : (decisions : List Decision) (decision : Decision) (orders : List ((Op × Op) × ℕ)) → IsNoOrder decision → AreFirsts (decisions ++ decision ∷ []) orders → AreFirsts decisions orders
firsts_without decisions decision orders not are = record {
  there = λ c d k e. elim (get_parts decisions decision k (First c d) (are.there c d k e)) [ inl early ↦ early | inr last ↦ absurd (not c d (sym last.1)) ];
  first = λ c d k e. are.first c d k (get_early decisions decision k (First c d) e);
}

-- ---- what is asked

pub has_order : (decisions : List Decision) (orders : List ((Op × Op) × ℕ)) (a b : Op) (k : ℕ) → AreFirsts decisions orders → place_in orders a b ≡ Some k → Contains decisions (First a b)
has_order decisions orders a b k are own =
    let e = are.there a b k own in
    (k, slice_get_within decisions k (First a b) e, get_or_from_slice_get decisions k (First a b) (First a b) e)

pub has_not : (decisions : List Decision) (orders : List ((Op × Op) × ℕ)) (a b : Op) → AreFirsts decisions orders → place_in orders a b ≡ None → Contains decisions (First a b) → ⊥
has_not decisions orders a b are none there =
    let f = are.first a b there.0 (slice_get-get_or decisions there.0 (First a b) there.1 ∙ ap (λ (x : Decision). Some x) there.2) in
    not_both _ f.0 none f.1
