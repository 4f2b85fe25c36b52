-- The problem that is made is well formed.
use Rattle.std.proofs.Common.{◌≡◌, ◌≢◌, ◌∙◌, ◌⊎◌, ℕ, zero, suc, ◌+◌, ◌-◌, ◌*◌, ◌/◌, ◌%◌, ◌==◌, ◌<◌, ◌≤◌, Bool, true, false, List, [], ◌∷◌, ◌++◌, length, get_or, Some, codes, refl, sym, ap, inl, inr, arith, length-append}
use Rattle.std.specs.Prelude.{All, slice_get, sum_by, nat_lt, if◌then◌else◌}
use Rattle.std.specs.Fmt.{decimal}
use Rattle.std.proofs.lemmas.Fmt.{decimal_injective}
use Rattle.std.proofs.Math.Seq.{get_or-append_seam}
use Rattle.std.proofs.lemmas.List.{get_or_append_left}
use Rattle.std.proofs.lemmas.List.Sums.{sum_by-append}
use Rattle.std.proofs.lemmas.Bool.{cases_lt}
use Rattle.std.proofs.lemmas.List.Elements.{All-append, All-from_recursion, All-get_or}
use Rattle.std.proofs.lemmas.Option.{slice_get_within, get_or_from_slice_get}
use Rattle.disp_model.specs.declared.train.Operation.{Operation}
use Rattle.disp_model.specs.declared.train.Component.{Component}
use Rattle.disp_model.specs.WellFormed.{IsAcyclic, HasFitNumbers, RefersInside, IsComponent, span_of, horizon, operation_count, most_of, IsWellFormed}
use Rattle.instance_maker.specs.Draws.{pair_at}
use Rattle.instance_maker.specs.Made.{train_from, late_from, made_train, made_late, made_trains, made_components, names_of, pair_count, grace}
use Rattle.instance_maker.proofs.Block.{block_is_acyclic, block_fits, block_refers}

-- ---- one train

-- the train holds this resource on its way, and its numbers are small
record IsBlockTrain (resource : ℕ) (train : List Operation) : Type 0 where
  lower : ℕ
  min : ℕ
  is : train ≡ train_from lower resource min
  early : lower ≤ 200000
  short : min ≤ 29

-- what a drawn pair's numbers are at most
first_small : (number k : ℕ) → (pair_at number k).first ≤ 29
first_small number k = omega arith

second_small : (number k : ℕ) → (pair_at number k).second ≤ 29
second_small number k = omega arith

gap_small : (number k : ℕ) → (pair_at number k).gap ≤ 9
gap_small number k = omega arith

block_train : (b : Bool) (number k : ℕ) → k < 1000 → IsBlockTrain k
    (if b then train_from (100 * k) k (pair_at number k).first
    else train_from (100 * k + (pair_at number k).gap) k (pair_at number k).second)
block_train true number k small = record {
  lower = 100 * k;
  min = (pair_at number k).first;
  is = refl;
  early = omega arith;
  short = first_small number k;
}
block_train false number k small = record {
  lower = 100 * k + (pair_at number k).gap;
  min = (pair_at number k).second;
  is = refl;
  early = omega (arith, gap_small number k);
  short = second_small number k;
}

train_is : (number t : ℕ) → t < 2000 → IsBlockTrain (t / 2) (made_train number t)
train_is number t small = block_train (t % 2 == 0) number (t / 2) (omega arith)

-- ---- one component

record IsLate (train : ℕ) (c : Component) : Type 0 where
  train_is : c.train ≡ train
  operation : c.operation ≡ 2
  threshold : c.threshold ≤ 200000
  increment : c.increment ≡ 0
  coeff : c.coeff ≡ 1

small_grace : (b : Bool) (first gap : ℕ) → first ≤ 29 → (if b then 0 else first - gap) ≤ 29
small_grace true first gap le = omega arith
small_grace false first gap le = omega arith

grace_small : (number k : ℕ) → grace k (pair_at number k) ≤ 29
grace_small number k =
    small_grace (nat_lt k 4) (pair_at number k).first (pair_at number k).gap (first_small number k)

late_train : (b : Bool) (number t k : ℕ) → (b ≡ true → 2 * k ≡ t) → (b ≡ false → 2 * k + 1 ≡ t)
    → k < 1000 → IsLate t
    (if b then late_from (2 * k) (100 * k + 5 + (pair_at number k).first)
    else late_from (2 * k + 1) (100 * k + (pair_at number k).gap + 5 + (pair_at number k).second
    + grace k (pair_at number k)))
late_train true number t k even odd small = record {
  train_is = even refl;
  operation = refl;
  threshold = omega (arith, first_small number k);
  increment = refl;
  coeff = refl;
}
late_train false number t k even odd small = record {
  train_is = odd refl;
  operation = refl;
  threshold = omega (arith, gap_small number k, second_small number k, grace_small number k);
  increment = refl;
  coeff = refl;
}

halves_even : (t : ℕ) → (t % 2 == 0) ≡ true → 2 * (t / 2) ≡ t
halves_even t is = grind arith

halves_odd : (t : ℕ) → (t % 2 == 0) ≡ false → 2 * (t / 2) + 1 ≡ t
halves_odd t is = grind arith

late_is : (number t : ℕ) → t < 2000 → IsLate t (made_late number t)
late_is number t small =
    late_train (t % 2 == 0) number t (t / 2) (halves_even t) (halves_odd t) (omega arith)

-- ---- lists

trains_count : (number n : ℕ) → length (made_trains number n) ≡ n
trains_count number zero = refl
trains_count number (suc n) =
    length-append (made_trains number n) (made_train number n ∷ []) ∙ omega (arith, trains_count number n)

components_count : (number n : ℕ) → length (made_components number n) ≡ n
components_count number zero = refl
components_count number (suc n) =
    length-append (made_components number n) (made_late number n ∷ [])
    ∙ omega (arith, components_count number n)

names_count : (n : ℕ) → length (names_of n) ≡ n
names_count zero = refl
names_count (suc n) =
    length-append (names_of n) ((codes "p" ++ decimal n) ∷ []) ∙ omega (arith, names_count n)

all_trains : (P : List Operation → Type 0) (number n : ℕ)
    → ((t : ℕ) → t < n → P (made_train number t)) → All P (made_trains number n)
all_trains P number zero each = All-from_recursion P [] tt
all_trains P number (suc n) each = All-append P (made_trains number n) (made_train number n ∷ [])
    (all_trains P number n (λ t lt. each t (omega (arith, lt))))
    (All-from_recursion P (made_train number n ∷ []) (each n (omega arith), tt))

all_components : (P : Component → Type 0) (number n : ℕ)
    → ((t : ℕ) → t < n → P (made_late number t)) → All P (made_components number n)
all_components P number zero each = All-from_recursion P [] tt
all_components P number (suc n) each = All-append P (made_components number n) (made_late number n ∷ [])
    (all_components P number n (λ t lt. each t (omega (arith, lt))))
    (All-from_recursion P (made_late number n ∷ []) (each n (omega arith), tt))

name_at : (n i : ℕ) → i < n → get_or (names_of n) i [] ≡ codes "p" ++ decimal i
name_at zero i lt = absurd (omega (arith, lt))
name_at (suc n) i lt = go (cases_lt i n) (λ below. name_at n i below)
  where
    last : i ≡ n → get_or (names_of n ++ (codes "p" ++ decimal n) ∷ []) i [] ≡ codes "p" ++ decimal i
    last is = rw is (
        ap (λ k. get_or (names_of n ++ (codes "p" ++ decimal n) ∷ []) k []) (sym (names_count n))
        ∙ get_or-append_seam (names_of n) (codes "p" ++ decimal n) [] []
        )

    go : (i < n) ⊎ (n ≤ i) → (i < n → get_or (names_of n) i [] ≡ codes "p" ++ decimal i)
        → get_or (names_of n ++ (codes "p" ++ decimal n) ∷ []) i [] ≡ codes "p" ++ decimal i
    go (inl below) earlier = get_or_append_left (names_of n) ((codes "p" ++ decimal n) ∷ []) [] i
        (rw (names_count n) below) ∙ earlier below
    go (inr not_below) earlier = last (omega (arith, lt, not_below))

same_rest : (x : ℕ) (one other : List ℕ) → x ∷ one ≡ x ∷ other → one ≡ other
same_rest x one other e = cc

named_at : (n i : ℕ) (name : List ℕ) → slice_get (names_of n) i ≡ Some name
    → (i < n) × (codes "p" ++ decimal i ≡ name)
named_at n i name at =
    let within : i < n = omega (arith, slice_get_within (names_of n) i name at, names_count n) in
    (within, sym (name_at n i within) ∙ get_or_from_slice_get (names_of n) i name [] at)

names_distinct : (n : ℕ) → n ≤ 1000 → (i j : ℕ) (name : List ℕ) → i < j
    → slice_get (names_of n) i ≡ Some name → slice_get (names_of n) j ≢ Some name
names_distinct n few i j name lt at_i at_j =
    let one = named_at n i name at_i in
    let other = named_at n j name at_j in
    let texts : decimal i ≡ decimal j =
    same_rest 112 (decimal i) (decimal j) (one.1 ∙ sym other.1) in
    let same : i ≡ j =
    decimal_injective i j (omega (arith, one.0, few)) (omega (arith, other.0, few)) texts in
    omega (arith, lt, same)

-- ---- sums

train_spans : (resource : ℕ) (train : List Operation) → IsBlockTrain resource train
    → sum_by span_of train ≤ 34
train_spans resource train is =
    rw is.is (omega (arith, is.short))

three_operations : (resource : ℕ) (train : List Operation) → IsBlockTrain resource train
    → length train ≡ 3
three_operations resource train is = rw is.is refl

spans : (number n : ℕ) → n ≤ 2000
    → sum_by (λ train. sum_by span_of train) (made_trains number n) ≤ 34 * n
spans number zero few = omega arith
spans number (suc n) few =
    rw (sum_by-append (λ train. sum_by span_of train) (made_trains number n) (made_train number n ∷ []))
    (omega (
      arith,
      spans number n (omega (arith, few)),
      train_spans (n / 2) (made_train number n) (train_is number n (omega (arith, few))),
    ))

operations : (number n : ℕ) → n ≤ 2000 → operation_count (made_trains number n) ≡ 3 * n
operations number zero few = refl
operations number (suc n) few =
    sum_by-append (λ train. length train) (made_trains number n) (made_train number n ∷ [])
    ∙ omega (
      arith,
      operations number n (omega (arith, few)),
      three_operations (n / 2) (made_train number n) (train_is number n (omega (arith, few))),
    )

late_costs : (train last : ℕ) (c : Component) → IsLate train c → most_of last c ≡ last
late_costs train last c is = rw (is.coeff, is.increment) (omega arith)

costs : (number n last : ℕ) → n ≤ 2000 → sum_by (most_of last) (made_components number n) ≡ n * last
costs number zero last few = omega arith
costs number (suc n) last few =
    sum_by-append (most_of last) (made_components number n) (made_late number n ∷ [])
    ∙ omega (
      arith,
      costs number n last (omega (arith, few)),
      late_costs n last (made_late number n) (late_is number n (omega (arith, few))),
    )

most : (n last : ℕ) → n ≤ 2000 → last ≤ 3000000000 → n * last ≤ 2000 * 3000000000
most n last few small = grind arith

-- ---- the problem

-- a component names the exit of its train
late_component : (number n t : ℕ) → n ≤ 2000 → t < n → (c : Component) → IsLate t c
    → IsComponent (made_trains number n) c
late_component number n t few lt c is = record {
  threshold = omega (arith, is.threshold);
  increment = rw is.increment (omega arith);
  coeff = rw is.coeff (omega arith);
  train = omega (arith, is.train_is, trains_count number n, lt);
  operation = λ train at.
      let within = slice_get_within (made_trains number n) c.train train at in
      let here = get_or_from_slice_get (made_trains number n) c.train train [] at in
      let three : length (get_or (made_trains number n) c.train []) ≡ 3 =
      All-get_or (λ (x : List Operation). length x ≡ 3) (made_trains number n) c.train [] within
      (all_trains (λ (x : List Operation). length x ≡ 3) number n
      (λ u below. three_operations (u / 2) (made_train number u)
      (train_is number u (omega (arith, below, few))))) in
      omega (arith, is.operation, three, ap (λ (x : List Operation). length x) here);
}

module _ (number n : ℕ) (few : n ≤ 2000) where
  is_block : (t : ℕ) → t < n → IsBlockTrain (t / 2) (made_train number t)
  is_block t lt = train_is number t (omega (arith, lt, few))

  numbers : (t : ℕ) → t < n → All HasFitNumbers (made_train number t)
  numbers t lt =
      let block = is_block t lt in
      rw block.is (block_fits block.lower (t / 2) block.min (omega (arith, block.early))
      (omega (arith, block.short)))

  refers : (t : ℕ) → t < n
      → All (RefersInside (length (made_train number t)) (length (names_of (pair_count n))))
      (made_train number t)
  refers t lt =
      let block = is_block t lt in
      let there : t / 2 < length (names_of (pair_count n)) =
      omega (arith, names_count (pair_count n), lt) in
      rw block.is (block_refers block.lower (t / 2) block.min (length (names_of (pair_count n))) there)

  acyclic : (t : ℕ) → t < n → IsAcyclic (made_train number t)
  acyclic t lt =
      let block = is_block t lt in
      rw block.is (block_is_acyclic block.lower (t / 2) block.min)

  last_small : horizon (made_trains number n) ≤ 3000000000
  last_small = omega (arith, spans number n few, few)

  pub made_is_well_formed :
      IsWellFormed (made_trains number n) (made_components number n) (names_of (pair_count n))
  made_is_well_formed = record {
    numbers = all_trains (λ train. All HasFitNumbers train) number n numbers;
    references = all_trains (λ train. All (RefersInside (length train)
        (length (names_of (pair_count n)))) train) number n refers;
    acyclic = all_trains IsAcyclic number n acyclic;
    named = all_components (IsComponent (made_trains number n)) number n
        (λ t lt. late_component number n t few lt (made_late number t)
        (late_is number t (omega (arith, lt, few))));
    distinct = names_distinct (pair_count n) (omega (arith, few));
    trains_fit = omega (arith, trains_count number n, few);
    operations_fit = omega (arith, operations number n few, few);
    components_fit = omega (arith, components_count number n, few);
    costs_fit = omega (
      arith,
      costs number n (horizon (made_trains number n)) few,
      most n (horizon (made_trains number n)) few last_small,
    );
  }
