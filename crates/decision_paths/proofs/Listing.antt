-- The decisions that speak of routes, by their trains.
use Rattle.std.proofs.Common.{◌≡◌, ◌∙◌, ℕ, zero, suc, ◌<◌, ◌-◌, List, [], ◌∷◌, ◌++◌, length, take, get_or, set, Option, Some, None, Bool, true, false, cond, refl, sym, ap, subst, inl, inr, arith}
use Rattle.std.specs.Prelude.{◌⊎◌, ◌≢◌, ◌==◌, slice_get}
use Rattle.std.specs.Global.{Vec}
use Rattle.std.specs.List.{filter}
use Rattle.std.specs.Option.{option_map_or}
use Rattle.std.specs.Cmp.{nat_eq_equiv}
use Rattle.std.proofs.lemmas.Bool.{cases_Bool, false≢true, eqb-true}
use Rattle.std.proofs.lemmas.Option.{none-some, same_Some, slice_get_read}
use Rattle.std.proofs.lemmas.List.{length-append, length-set, take-append-le, take_all}
use Rattle.std.proofs.lemmas.List.Elements.{filter-append}
use Rattle.std.proofs.Math.Nat.{min-le_right}
use Rattle.disp_model.specs.declared.decision.Decision.{Decision}
use Rattle.disp_laws.proofs.Lists.{set_parts}
use Rattle.decision_paths.specs.Kept.{train_about, about_one, speaks_of, list_of, is_listed, AreRoutesByTrain}

-- ---- filters

filter_in : {X : Type 0} (p : X → Bool) (x : X) (xs : List X) → p x ≡ true → filter p (x ∷ xs) ≡ x ∷ filter p xs
filter_in {X} p x xs is = ap (λ (b : Bool). cond b (x ∷ filter p xs) (filter p xs)) is

filter_out : {X : Type 0} (p : X → Bool) (x : X) (xs : List X) → p x ≡ false → filter p (x ∷ xs) ≡ filter p xs
filter_out {X} p x xs is = ap (λ (b : Bool). cond b (x ∷ filter p xs) (filter p xs)) is

append_none : {X : Type 0} (xs : List X) → xs ++ [] ≡ xs
append_none [] = refl
append_none {X} (x ∷ xs) = ap (λ (l : List X). x ∷ l) (append_none xs)

pub filter_more : {X : Type 0} (p : X → Bool) (xs : List X) (x : X) → p x ≡ true → filter p (xs ++ x ∷ []) ≡ filter p xs ++ x ∷ []
filter_more {X} p xs x is = filter-append p xs (x ∷ []) ∙ ap (λ (l : List X). filter p xs ++ l) (filter_in p x [] is)

pub filter_same : {X : Type 0} (p : X → Bool) (xs : List X) (x : X) → p x ≡ false → filter p (xs ++ x ∷ []) ≡ filter p xs
filter_same {X} p xs x is = filter-append p xs (x ∷ []) ∙ ap (λ (l : List X). filter p xs ++ l) (filter_out p x [] is) ∙ append_none (filter p xs)

-- of what passes the weaker test, the stronger leaves what it leaves of all
pub filter_twice : {X : Type 0} (p q : X → Bool) → ((x : X) → p x ≡ true → q x ≡ true) → (xs : List X) → filter p (filter q xs) ≡ filter p xs
filter_twice p q only [] = refl
filter_twice {X} p q only (x ∷ xs) = elim (cases_Bool (p x)) [
  | inl is ↦
      ap (λ (l : List X). filter p l) (filter_in q x xs (only x is)) ∙ filter_in p x (filter q xs) is ∙ ap (λ (l : List X). x ∷ l) (filter_twice p q only xs) ∙ sym (filter_in p x xs is)
  | inr not ↦ elim (cases_Bool (q x)) [
    | inl is ↦ ap (λ (l : List X). filter p l) (filter_in q x xs is) ∙ filter_out p x (filter q xs) not ∙ filter_twice p q only xs ∙ sym (filter_out p x xs not)
    | inr out ↦ ap (λ (l : List X). filter p l) (filter_out q x xs out) ∙ filter_twice p q only xs ∙ sym (filter_out p x xs not)
  ]
]

-- ---- which list

-- what a decision on a train's routes passes
pub about_is : (test : ℕ → Bool) (decision : Decision) (t : ℕ) → train_about decision ≡ Some t → about_one test decision ≡ test t
about_is test decision t is = ap (λ (o : Option ℕ). option_map_or test o false) is

-- a decision that speaks of no routes passes nothing
pub about_none : (test : ℕ → Bool) (decision : Decision) → train_about decision ≡ None → about_one test decision ≡ false
about_none test decision is = ap (λ (o : Option ℕ). option_map_or test o false) is

pub speaks_listed : (last t : ℕ) (decision : Decision) → speaks_of t decision ≡ true → is_listed last (list_of last t) decision ≡ true
speaks_listed last t decision h = by (train_about decision) h
  where
    by : (o : Option ℕ) → option_map_or (λ u. u == t) o false ≡ true → option_map_or (λ u. list_of last u == list_of last t) o false ≡ true
    by None h = absurd (false≢true h)
    by (Some u) h = subst (λ (v : ℕ). (list_of last u == list_of last v) ≡ true) (eqb-true u t h) (nat_eq_equiv.refl (list_of last u))

-- what speaks of a train's routes is all in its list
pub about_its : (decisions : List Decision) (last t : ℕ) → filter (speaks_of t) (filter (is_listed last (list_of last t)) decisions) ≡ filter (speaks_of t) decisions
about_its decisions last t = filter_twice (speaks_of t) (is_listed last (list_of last t)) (speaks_listed last t) decisions

-- ---- the lists

within : (n t place : ℕ) → 0 < n → place ≡ list_of (n - 1) t → place < n
within n t place some is = omega (arith, some, is, min-le_right t (n - 1))

own_at : (routes : List (Vec Decision)) (place : ℕ) (own : Vec Decision) → place < length routes → own ≡ get_or routes place own → slice_get routes place ≡ Some own
own_at routes place own lt is = slice_get_read routes (length routes) place own refl lt is

cut_last : {X : Type 0} (xs : List X) (x : X) (n : ℕ) → n ≡ length (xs ++ x ∷ []) → take (n - 1) (xs ++ x ∷ []) ≡ xs
cut_last {X} xs x n is =
    let e : n - 1 ≡ length xs = omega (arith, is, length-append xs (x ∷ [])) in
    rw e (take-append-le (length xs) xs (x ∷ []) (omega arith) ∙ take_all (length xs) xs (omega arith))

module _ (decisions : List Decision) (decision : Decision) (routes : List (Vec Decision)) where
  abbrev more : List Decision
  more = decisions ++ decision ∷ []

  -- a decision that speaks of no routes
  routes_same : train_about decision ≡ None → (last i : ℕ) → filter (is_listed last i) more ≡ filter (is_listed last i) decisions
  routes_same none last i = filter_same (is_listed last i) decisions decision (about_none (λ u. list_of last u == i) decision none)

  pub routes_other : train_about decision ≡ None → AreRoutesByTrain decisions routes → AreRoutesByTrain more routes
  routes_other none are = record { some = are.some; each = λ i own e. are.each i own e ∙ sym (routes_same none (length routes - 1) i) }

  pub routes_without : train_about decision ≡ None → AreRoutesByTrain more routes → AreRoutesByTrain decisions routes
  routes_without none are = record { some = are.some; each = λ i own e. are.each i own e ∙ routes_same none (length routes - 1) i }

  -- a decision on the routes of a train
  module _ (t place : ℕ) (own new : Vec Decision) (about : train_about decision ≡ Some t) (some : 0 < length routes) (place_is : place ≡ list_of (length routes - 1) t) (own_is : own ≡ get_or routes place own) where
    its : is_listed (length routes - 1) place decision ≡ true
    its = about_is (λ u. list_of (length routes - 1) u == place) decision t about ∙ subst (λ (p : ℕ). (list_of (length routes - 1) t == p) ≡ true) (sym place_is) (nat_eq_equiv.refl (list_of (length routes - 1) t))

    not_its : (i : ℕ) → i ≢ place → is_listed (length routes - 1) i decision ≡ false
    not_its i apart = about_is (λ u. list_of (length routes - 1) u == i) decision t about ∙ elim (cases_Bool (list_of (length routes - 1) t == i)) [
      | inl is ↦ absurd (apart (sym (eqb-true (list_of (length routes - 1) t) i is) ∙ sym place_is))
      | inr not ↦ not
    ]

    lt : place < length routes
    lt = within (length routes) t place some place_is

    stood : slice_get routes place ≡ Some own
    stood = own_at routes place own (within (length routes) t place some place_is) own_is

    pub routes_noted : new.items ≡ own.items ++ decision ∷ [] → AreRoutesByTrain decisions routes → AreRoutesByTrain more (set routes place new)
    routes_noted new_is are = record {
      some = omega (arith, length-set routes place new, some);
      each = λ i list e. subst (λ (n : ℕ). list.items ≡ filter (is_listed (n - 1) i) more) (sym (length-set routes place new)) (by i list (set_parts routes place new i list lt e));
    }
      where
        by : (i : ℕ) (list : Vec Decision) → ((i ≡ place) × (list ≡ new)) ⊎ ((i ≢ place) × (slice_get routes i ≡ Some list)) → list.items ≡ filter (is_listed (length routes - 1) i) more
        by i list (inl same) =
            ap (λ (v : Vec Decision). v.items) same.1 ∙ new_is ∙ ap (λ (l : List Decision). l ++ decision ∷ []) (are.each place own stood) ∙ sym (filter_more (is_listed (length routes - 1) place) decisions decision its)
            ∙ ap (λ (j : ℕ). filter (is_listed (length routes - 1) j) more) (sym same.0)
        by i list (inr other) = are.each i list other.1 ∙ sym (filter_same (is_listed (length routes - 1) i) decisions decision (not_its i other.0))

    pub routes_forgot : new.items ≡ take (own.len - 1) own.items → AreRoutesByTrain more routes → AreRoutesByTrain decisions (set routes place new)
    routes_forgot new_is are = record {
      some = omega (arith, length-set routes place new, some);
      each = λ i list e. subst (λ (n : ℕ). list.items ≡ filter (is_listed (n - 1) i) decisions) (sym (length-set routes place new)) (by i list (set_parts routes place new i list lt e));
    }
      where
        own_has : own.items ≡ filter (is_listed (length routes - 1) place) decisions ++ decision ∷ []
        own_has = are.each place own stood ∙ filter_more (is_listed (length routes - 1) place) decisions decision its

        left : take (own.len - 1) own.items ≡ filter (is_listed (length routes - 1) place) decisions
        left =
            ap (λ (l : List Decision). take (own.len - 1) l) own_has
            ∙ cut_last (filter (is_listed (length routes - 1) place) decisions) decision own.len (own.ok.0 ∙ ap (λ (l : List Decision). length l) own_has)

        by : (i : ℕ) (list : Vec Decision) → ((i ≡ place) × (list ≡ new)) ⊎ ((i ≢ place) × (slice_get routes i ≡ Some list)) → list.items ≡ filter (is_listed (length routes - 1) i) decisions
        by i list (inl same) = ap (λ (v : Vec Decision). v.items) same.1 ∙ new_is ∙ left ∙ ap (λ (j : ℕ). filter (is_listed (length routes - 1) j) decisions) (sym same.0)
        by i list (inr other) = are.each i list other.1 ∙ filter_same (is_listed (length routes - 1) i) decisions decision (not_its i other.0)

-- no decisions, and one list more
pub routes_none : (routes : List (Vec Decision)) (own : Vec Decision) → ((i : ℕ) (list : Vec Decision) → slice_get routes i ≡ Some list → list.items ≡ []) → own.items ≡ [] → AreRoutesByTrain [] (routes ++ own ∷ [])
routes_none routes own are is = record {
  some = omega (arith, length-append routes (own ∷ []));
  each = λ i list e. by routes i list are e;
}
  where
    by : (rest : List (Vec Decision)) (i : ℕ) (list : Vec Decision) → ((j : ℕ) (l : Vec Decision) → slice_get rest j ≡ Some l → l.items ≡ []) → slice_get (rest ++ own ∷ []) i ≡ Some list → list.items ≡ []
    by [] zero list each e = ap (λ (v : Vec Decision). v.items) (sym (same_Some own list e)) ∙ is
    by [] (suc i) list each e = absurd (none-some list e)
    by (x ∷ rest) zero list each e = each 0 list e
    by (x ∷ rest) (suc i) list each e = by rest i list (λ j l f. each (suc j) l f) e

pub routes_empty : (routes : List (Vec Decision)) → routes ≡ [] → (i : ℕ) (list : Vec Decision) → slice_get routes i ≡ Some list → list.items ≡ []
routes_empty routes is i list e = absurd (none-some list (subst (λ (l : List (Vec Decision)). slice_get l i ≡ Some list) is e))

-- what is lent of a train
pub about_lent : (decisions value : List Decision) (routes read : List (Vec Decision)) (t place : ℕ) (own : Vec Decision) (lent : List Decision) → AreRoutesByTrain decisions routes → decisions ≡ value → read ≡ routes
    → place ≡ list_of (length read - 1) t → own ≡ get_or routes place own → lent ≡ own.items → filter (speaks_of t) lent ≡ filter (speaks_of t) value
about_lent decisions value routes read t place own lent are value_is read_is place_is own_is lent_is =
    let at : place ≡ list_of (length routes - 1) t = subst (λ (l : List (Vec Decision)). place ≡ list_of (length l - 1) t) read_is place_is in
    let last = length routes - 1 in
    let stood = own_at routes place own (within (length routes) t place are.some at) own_is in
    let has : lent ≡ filter (is_listed last (list_of last t)) decisions = lent_is ∙ are.each place own stood ∙ ap (λ (i : ℕ). filter (is_listed last i) decisions) at in
    ap (λ (l : List Decision). filter (speaks_of t) l) has ∙ about_its decisions last t ∙ ap (λ (l : List Decision). filter (speaks_of t) l) value_is
