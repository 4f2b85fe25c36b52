-- Components that are added up, one after another.
use Rattle.std.proofs.Common.{◌≡◌, ℕ, zero, suc, ◌+◌, ◌<◌, ◌≤◌, List, [], ◌∷◌, ◌++◌, length, take, get_or, Bool, true, false, cond, Some, refl, sym, ap, subst, ◌∙◌, inl, inr, arith}
use Rattle.std.specs.Prelude.{◌&&◌, ◌⊎◌, filter, min, nat_eq, replicate, slice_get, slice_index, slice_set, sum_by}
use Rattle.std.specs.List.{FoldsTo}
use Rattle.std.proofs.lemmas.Bool.{cases_eq, eq-eqb, ne_eqb}
use Rattle.std.proofs.lemmas.Option.{same_Some, slice_get_within, slice_get-get_or, get_or_from_slice_get}
use Rattle.std.proofs.lemmas.List.{take_more, take_all, length-set, get_or-set_same, get_or-set_other}
use Rattle.std.proofs.lemmas.List.Elements.{filter-append}
use Rattle.std.proofs.lemmas.List.Sums.{sum_by-cons}
use Rattle.disp_model.specs.declared.train.Component.{Component}
use Rattle.disp_model.specs.Cost.{cost_at}
use Rattle.problem_facts.specs.Adding.{is_at, AddsComponents}
use Rattle.problem_facts.specs.Prices.{price_there, own_price}

pub none_added : {P : Type 0} (step : P → Component → P → Type 0) (t : ℕ) (kept : List P) → AddsComponents step t [] kept kept
none_added step t kept = record { long = refl; added = λ o before is. (before, is, refl) }

folds_on : {P : Type 0} (step : P → Component → P → Type 0) (xs ys : List Component) (p q r : P) → FoldsTo step p xs q → FoldsTo step q ys r → FoldsTo step p (xs ++ ys) r
folds_on step [] ys p q r first second = subst (λ (x : _). FoldsTo step x ys r) (sym first) second
folds_on step (x ∷ xs) ys p q r first second = (first.0, first.1, folds_on step xs ys first.0 q r first.2 second)

-- one more component
pub added_more : {P : Type 0} (step : P → Component → P → Type 0) (t : ℕ) (components : List Component) (i : ℕ) (d : Component) (old mid new : List P) → i < length components
    → AddsComponents step t (take i components) old mid → AddsComponents step t (get_or components i d ∷ []) mid new → AddsComponents step t (take (i + 1) components) old new
added_more step t components i d old mid new lt before own = record {
  long = own.long ∙ before.long;
  added = λ o first there.
      let so_far = before.added o first there in
      let then = own.added o so_far.0 so_far.1 in
      (then.0, then.1, subst (λ (l : List Component). FoldsTo step first l then.0) (sym (listed o)) (folds_on step (filter (is_at t o) (take i components)) (filter (is_at t o) one) first so_far.0 then.0 so_far.2 then.2));
}
  where
    one : List Component
    one = get_or components i d ∷ []

    listed : (o : ℕ) → filter (is_at t o) (take (i + 1) components) ≡ filter (is_at t o) (take i components) ++ filter (is_at t o) one
    listed o = ap (filter (is_at t o)) (take_more components i d lt) ∙ filter-append (is_at t o) (take i components) one

pub all_added : {P : Type 0} (step : P → Component → P → Type 0) (t : ℕ) (components : List Component) (i : ℕ) (old new : List P) → length components ≤ i → AddsComponents step t (take i components) old new → AddsComponents step t components old new
all_added step t components i old new past are = subst (λ (l : List Component). AddsComponents step t l old new) (take_all i components past) are

-- ---- one component

-- of another train
pub of_another : {P : Type 0} (step : P → Component → P → Type 0) (t : ℕ) (c : Component) (kept : List P) → (c.train ≡ t → ⊥) → AddsComponents step t (c ∷ []) kept kept
of_another step t c kept other = record {
  long = refl;
  added = λ o before is. (before, is, subst (λ (l : List Component). FoldsTo step before l before) (sym (left o)) refl);
}
  where
    left : (o : ℕ) → filter (is_at t o) (c ∷ []) ≡ []
    left o = rw (ne_eqb c.train t other) refl

at_other : (t o : ℕ) (c : Component) → (o ≡ c.operation → ⊥) → filter (is_at t o) (c ∷ []) ≡ []
at_other t o c other = by (nat_eq c.train t) (nat_eq o c.operation) (ne_eqb o c.operation other)
  where
    by : (own here : Bool) → here ≡ false → cond (own && here) (c ∷ []) [] ≡ []
    by true here e = rw e refl
    by false here e = refl

at_own : (t : ℕ) (c : Component) → c.train ≡ t → filter (is_at t c.operation) (c ∷ []) ≡ c ∷ []
at_own t c own = rw (eq-eqb c.train t own, eq-eqb c.operation c.operation refl) refl

-- of an operation of which nothing is kept
pub of_none : {P : Type 0} (step : P → Component → P → Type 0) (t : ℕ) (c : Component) (kept : List P) → length kept ≤ c.operation → AddsComponents step t (c ∷ []) kept kept
of_none step t c kept past = record {
  long = refl;
  added = λ o before is.
      let within = slice_get_within kept o before is in
      let other : o ≡ c.operation → ⊥ = λ e. absurd (omega (arith, e, within, past)) in
      (before, is, subst (λ (l : List Component). FoldsTo step before l before) (sym (at_other t o c other)) refl);
}

pub of_one : {P : Type 0} (step : P → Component → P → Type 0) (t : ℕ) (c : Component) (kept : List P) (own sum : P) → c.train ≡ t → slice_get kept c.operation ≡ Some own → step own c sum → AddsComponents step t (c ∷ []) kept (slice_set kept c.operation sum)
of_one {P} step t c kept own sum same there steps = record {
  long = length-set kept c.operation sum;
  added = λ o before is. by o before is (cases_eq o c.operation);
}
  where
    within : c.operation < length kept
    within = slice_get_within kept c.operation own there

    by : (o : ℕ) (before : P) → slice_get kept o ≡ Some before → ((o ≡ c.operation) ⊎ (o ≡ c.operation → ⊥))
        → (after : P) × (slice_get (slice_set kept c.operation sum) o ≡ Some after) × FoldsTo step before (filter (is_at t o) (c ∷ [])) after
    by o before is (inl e) =
        subst (λ (p : ℕ). (after : P) × (slice_get (slice_set kept c.operation sum) p ≡ Some after) × FoldsTo step before (filter (is_at t p) (c ∷ [])) after) (sym e) (
          sum,
          slice_get-get_or (slice_set kept c.operation sum) c.operation sum (omega (arith, within, length-set kept c.operation sum)) ∙ ap Some (get_or-set_same kept c.operation sum sum within),
          subst (λ (l : List Component). FoldsTo step before l sum) (sym (at_own t c same)) (sum, subst (λ (p : P). step p c sum) (same_Some own before (sym there ∙ ap (slice_get kept) (sym e) ∙ is)) steps, refl),
        )
    by o before is (inr other) =
        let inside = slice_get_within kept o before is in (
          before,
          slice_get-get_or (slice_set kept c.operation sum) o before (omega (arith, inside, length-set kept c.operation sum)) ∙ ap Some (get_or-set_other kept c.operation o sum before other ∙ get_or_from_slice_get kept o before before is),
          subst (λ (l : List Component). FoldsTo step before l before) (sym (at_other t o c other)) refl,
        )

-- ---- sums that stay at the greatest number

add_up : (cost : Component → ℕ) (most : ℕ) {step : ℕ → Component → ℕ → Type 0} → ((old new : ℕ) (c : Component) → step old c new → new ≡ min (old + cost c) most)
    → (components : List Component) (old new : ℕ) → old ≡ min old most → FoldsTo step old components new → new ≡ min (old + sum_by cost components) most
add_up cost most says [] old new small folds = omega (arith, small, folds)
add_up cost most says (c ∷ components) old new small folds =
    let one = says old folds.0 c folds.1 in
    omega (arith, one, add_up cost most says components folds.0 new (omega (arith, one)) folds.2, sum_by-cons cost c components)

-- a component costs nothing at operations that are not its own
costs_there : (t : ℕ) (reach : ℕ → ℕ) (o : ℕ) (components : List Component) → sum_by (λ c. cost_at c (reach c.operation)) (filter (is_at t o) components) ≡ own_price components t reach o
costs_there t reach o [] = refl
costs_there t reach o (c ∷ components) = omega (arith, costs_there t reach o components, sum_by-cons (price_there t reach o) c components, first (is_at t o c) refl)
  where
    f : Component → ℕ
    f c = cost_at c (reach c.operation)

    rest : List Component
    rest = filter (is_at t o) components

    first : (here : Bool) → is_at t o c ≡ here → sum_by f (filter (is_at t o) (c ∷ components)) ≡ price_there t reach o c + sum_by f rest
    first true e = rw (e) (sum_by-cons f c rest)
    first false e = rw (e) (omega arith)

-- so a price is added up of each operation that began with nothing
pub prices_added : {step : ℕ → Component → ℕ → Type 0} (most t : ℕ) (reach : ℕ → ℕ) (components : List Component) (count : ℕ) (old prices : List ℕ) → AddsComponents step t components old prices → old ≡ replicate count 0
    → ((sum more : ℕ) (c : Component) → step sum c more → more ≡ min (sum + cost_at c (reach c.operation)) most) → (o : ℕ) → o < count → slice_index prices o ≡ min (own_price components t reach o) most
prices_added most t reach components count old prices are began says o lt =
    let added = are.added o 0 (ap (λ (l : List ℕ). slice_get l o) began ∙ zeros count o lt) in
    let sum = add_up (λ c. cost_at c (reach c.operation)) most says (filter (is_at t o) components) 0 added.0 (omega arith) added.2 in
    get_or_from_slice_get prices o added.0 0 added.1 ∙ sum ∙ ap (λ (n : ℕ). min n most) (omega (arith, costs_there t reach o components))
  where
    zeros : (k o : ℕ) → o < k → slice_get {X = ℕ} (replicate k 0) o ≡ Some 0
    zeros zero o lt = absurd (omega (arith, lt))
    zeros (suc k) zero lt = refl
    zeros (suc k) (suc o) lt = zeros k o (omega (arith, lt))
