-- The fixings of each train.
use Rattle.std.proofs.Common.{◌≡◌, ◌∙◌, ℕ, zero, suc, ◌<◌, ◌-◌, List, [], ◌∷◌, ◌++◌, length, get_or, set, Some, true, false, refl, sym, ap, subst, inl, inr, arith}
use Rattle.std.specs.Prelude.{◌⊎◌, ◌≢◌, ◌==◌, slice_get}
use Rattle.std.specs.Global.{Vec}
use Rattle.std.specs.List.{filter}
use Rattle.std.specs.Cmp.{nat_eq_equiv}
use Rattle.std.proofs.lemmas.Bool.{cases_Bool, eqb-true}
use Rattle.std.proofs.lemmas.Option.{none-some, same_Some, slice_get_read}
use Rattle.std.proofs.lemmas.List.{length-append, length-set}
use Rattle.std.proofs.Math.Nat.{min-le_right}
use Rattle.disp_model.specs.declared.fixing.Fixing.{Fixing}
use Rattle.disp_laws.proofs.Lists.{set_parts}
use Rattle.decision_paths.proofs.Listing.{filter_more, filter_same, filter_twice}
use Rattle.node_facts.specs.Indexed.{fixing_train, fixes_train, own_list, in_list, AreFixedByTrain}

within : (n t place : ℕ) → 0 < n → place ≡ own_list (n - 1) t → place < n
within n t place some is = omega (arith, some, is, min-le_right t (n - 1))

own_at : (lists : List (Vec Fixing)) (place : ℕ) (own : Vec Fixing) → place < length lists → own ≡ get_or lists place own → slice_get lists place ≡ Some own
own_at lists place own lt is = slice_get_read lists (length lists) place own refl lt is

-- one fixing more
pub lists_noted : (fixings : List Fixing) (fixing : Fixing) (lists : List (Vec Fixing)) (place : ℕ) (own new : Vec Fixing) → 0 < length lists → place ≡ own_list (length lists - 1) (fixing_train fixing) → own ≡ get_or lists place own
    → new.items ≡ own.items ++ fixing ∷ [] → AreFixedByTrain fixings lists → AreFixedByTrain (fixings ++ fixing ∷ []) (set lists place new)
lists_noted fixings fixing lists place own new some place_is own_is new_is are = record {
  some = omega (arith, length-set lists place new, some);
  each = λ i list e. subst (λ (n : ℕ). list.items ≡ filter (in_list (n - 1) i) (fixings ++ fixing ∷ [])) (sym (length-set lists place new)) (by i list (set_parts lists place new i list lt e));
}
  where
    its : in_list (length lists - 1) place fixing ≡ true
    its = subst (λ (p : ℕ). (own_list (length lists - 1) (fixing_train fixing) == p) ≡ true) (sym place_is) (nat_eq_equiv.refl (own_list (length lists - 1) (fixing_train fixing)))

    not_its : (i : ℕ) → i ≢ place → in_list (length lists - 1) i fixing ≡ false
    not_its i apart = elim (cases_Bool (own_list (length lists - 1) (fixing_train fixing) == i)) [
      | inl is ↦ absurd (apart (sym (eqb-true (own_list (length lists - 1) (fixing_train fixing)) i is) ∙ sym place_is))
      | inr not ↦ not
    ]

    lt : place < length lists
    lt = within (length lists) (fixing_train fixing) place some place_is

    stood : slice_get lists place ≡ Some own
    stood = own_at lists place own (within (length lists) (fixing_train fixing) place some place_is) own_is

    by : (i : ℕ) (list : Vec Fixing) → ((i ≡ place) × (list ≡ new)) ⊎ ((i ≢ place) × (slice_get lists i ≡ Some list)) → list.items ≡ filter (in_list (length lists - 1) i) (fixings ++ fixing ∷ [])
    by i list (inl same) =
        ap (λ (v : Vec Fixing). v.items) same.1 ∙ new_is ∙ ap (λ (l : List Fixing). l ++ fixing ∷ []) (are.each place own stood) ∙ sym (filter_more (in_list (length lists - 1) place) fixings fixing its)
        ∙ ap (λ (j : ℕ). filter (in_list (length lists - 1) j) (fixings ++ fixing ∷ [])) (sym same.0)
    by i list (inr other) = are.each i list other.1 ∙ sym (filter_same (in_list (length lists - 1) i) fixings fixing (not_its i other.0))

-- no fixings, and one list more
pub lists_none : (lists : List (Vec Fixing)) (own : Vec Fixing) → ((i : ℕ) (list : Vec Fixing) → slice_get lists i ≡ Some list → list.items ≡ []) → own.items ≡ [] → AreFixedByTrain [] (lists ++ own ∷ [])
lists_none lists own are is = record {
  some = omega (arith, length-append lists (own ∷ []));
  each = λ i list e. by lists i list are e;
}
  where
    by : (rest : List (Vec Fixing)) (i : ℕ) (list : Vec Fixing) → ((j : ℕ) (l : Vec Fixing) → slice_get rest j ≡ Some l → l.items ≡ []) → slice_get (rest ++ own ∷ []) i ≡ Some list → list.items ≡ []
    by [] zero list each e = ap (λ (v : Vec Fixing). v.items) (sym (same_Some own list e)) ∙ is
    by [] (suc i) list each e = absurd (none-some list e)
    by (x ∷ rest) zero list each e = each 0 list e
    by (x ∷ rest) (suc i) list each e = by rest i list (λ j l f. each (suc j) l f) e

pub lists_empty : (lists : List (Vec Fixing)) → lists ≡ [] → (i : ℕ) (list : Vec Fixing) → slice_get lists i ≡ Some list → list.items ≡ []
lists_empty lists is i list e = absurd (none-some list (subst (λ (l : List (Vec Fixing)). slice_get l i ≡ Some list) is e))

-- what speaks of a train is all in its list
fixes_listed : (last t : ℕ) (fixing : Fixing) → fixes_train t fixing ≡ true → in_list last (own_list last t) fixing ≡ true
fixes_listed last t fixing h = subst (λ (v : ℕ). (own_list last (fixing_train fixing) == own_list last v) ≡ true) (eqb-true (fixing_train fixing) t h) (nat_eq_equiv.refl (own_list last (fixing_train fixing)))

-- what is lent of a train
pub fixings_lent : (fixings value : List Fixing) (lists read : List (Vec Fixing)) (t place : ℕ) (own : Vec Fixing) (lent : List Fixing) → AreFixedByTrain fixings lists → fixings ≡ value → read ≡ lists
    → place ≡ own_list (length read - 1) t → own ≡ get_or lists place own → lent ≡ own.items → filter (fixes_train t) lent ≡ filter (fixes_train t) value
fixings_lent fixings value lists read t place own lent are value_is read_is place_is own_is lent_is =
    let at : place ≡ own_list (length lists - 1) t = subst (λ (l : List (Vec Fixing)). place ≡ own_list (length l - 1) t) read_is place_is in
    let last = length lists - 1 in
    let stood = own_at lists place own (within (length lists) t place are.some at) own_is in
    let has : lent ≡ filter (in_list last (own_list last t)) fixings = lent_is ∙ are.each place own stood ∙ ap (λ (i : ℕ). filter (in_list last i) fixings) at in
    ap (λ (l : List Fixing). filter (fixes_train t) l) has ∙ filter_twice (fixes_train t) (in_list last (own_list last t)) (fixes_listed last t) fixings ∙ ap (λ (l : List Fixing). filter (fixes_train t) l) value_is
