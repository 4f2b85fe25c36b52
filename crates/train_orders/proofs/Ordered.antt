-- What stands where in an order of a train: its last operation is the entry.
use Rattle.std.proofs.Common.{◌≡◌, ℕ, zero, suc, ◌+◌, ◌<◌, ◌≤◌, ◌⊎◌, List, [], ◌∷◌, length, take, get_or, Some, refl, subst, arith, inl, inr}
use Rattle.std.specs.Prelude.{slice_get, Contains}
use Rattle.std.proofs.lemmas.Bool.{cases_lt}
use Rattle.std.proofs.lemmas.Option.{none-some, slice_get_within, slice_get-get_or}
use Rattle.disp_model.specs.declared.train.Operation.{Operation}
use Rattle.disp_model.specs.Train.{IsSuccessor, IsEntry, GoesOn}
use Rattle.disp_model.specs.WellFormed.{IsAcyclic}
use Rattle.train_orders.specs.Orders.{IsBehind, IsOrder}
use Rattle.train_orders.proofs.Places.{at_contains, contains_at, contains_none}

pub contains_here : (x : ℕ) (xs : List ℕ) → Contains (x ∷ xs) x
contains_here x xs = (0, omega arith, refl)

pub contains_later : (x q : ℕ) (xs : List ℕ) → Contains xs q → Contains (x ∷ xs) q
contains_later x q xs (k, lt, e) = (suc k, omega arith, e)

pub contains_cases : (x q : ℕ) (xs : List ℕ) → Contains (x ∷ xs) q → (x ≡ q) ⊎ Contains xs q
contains_cases x q xs (zero, lt, e) = inl e
contains_cases x q xs (suc k, lt, e) = inr (k, omega arith, e)

pub at_taken : (xs : List ℕ) (i j x : ℕ) → slice_get (take i xs) j ≡ Some x → (j < i) × (slice_get xs j ≡ Some x)
at_taken xs zero j x e = absurd (none-some x e)
at_taken [] (suc i) j x e = absurd (none-some x e)
at_taken (y ∷ xs) (suc i) zero x e = (omega arith, e)
at_taken (y ∷ xs) (suc i) (suc j) x e = let found = at_taken xs i j x e in (omega (arith, found.0), found.1)

pub taken_at : (xs : List ℕ) (i j x : ℕ) → j < i → slice_get xs j ≡ Some x → Contains (take i xs) x
taken_at xs zero j x lt e = absurd (omega arith)
taken_at [] (suc i) j x lt e = absurd (none-some x e)
taken_at (y ∷ xs) (suc i) zero x lt e = contains_at (y ∷ take i xs) x 0 e
taken_at (y ∷ xs) (suc i) (suc j) x lt e = contains_later y x (take i xs) (taken_at xs i j x (omega arith) e)

pub taken_more : (xs : List ℕ) (i j x : ℕ) → j ≤ i → Contains (take j xs) x → Contains (take i xs) x
taken_more xs i zero x le there = absurd (contains_none x there)
taken_more [] i (suc j) x le there = absurd (contains_none x there)
taken_more (y ∷ xs) zero (suc j) x le there = absurd (omega arith)
taken_more (y ∷ xs) (suc i) (suc j) x le there = elim (contains_cases y x (take j xs) there) [ inl e ↦ (0, omega arith, e) | inr later ↦ contains_later y x (take i xs) (taken_more xs i j x (omega arith) later) ]

-- an operation has one place
pub one_place : (train : List Operation) (order : List ℕ) (i j o : ℕ) → IsOrder train order → slice_get order i ≡ Some o → slice_get order j ≡ Some o → i ≡ j
one_place train order i j o is first second = elim (cases_lt i j) [
  | inl lt ↦ absurd (is.is_behind.once j o second (taken_at order j i o lt first))
  | inr le ↦ elim (cases_lt j i) [
    | inl lt ↦ absurd (is.is_behind.once i o first (taken_at order i j o lt second))
    | inr ge ↦ omega (arith, le, ge)
  ]
]

nothing_behind : (train : List Operation) (p s : ℕ) → length train ≤ p → IsSuccessor train p s → ⊥
nothing_behind [] p s le (k, lt, e) = omega arith
nothing_behind (o ∷ train) zero s le next = omega arith
nothing_behind (o ∷ train) (suc p) s le next = nothing_behind train p s (omega arith) next

pub last_is_entry : (train : List Operation) (order : List ℕ) (k e : ℕ) → IsOrder train order → length order ≡ k + 1 → slice_get order k ≡ Some e → IsEntry train e
last_is_entry train order k e is long last = record {
  there = is.is_behind.within e (contains_at order e k last);
  first = λ p next. elim (cases_lt p (length train)) [
    | inr past ↦ nothing_behind train p e past next
    | inl lt ↦ before p next (at_contains order p (is.has p lt))
  ];
}
  where
    before : (p : ℕ) → IsSuccessor train p e → ((j : ℕ) × (slice_get order j ≡ Some p)) → ⊥
    before p next (j, here) =
        is.is_behind.once k e last (taken_more order k j e (omega (arith, long, slice_get_within order j p here)) (is.is_behind.behind j p e here next))

-- the order has a last
pub has_last : (train : List Operation) (order : List ℕ) → IsAcyclic train → IsOrder train order → (k : ℕ) × (e : ℕ) × (length order ≡ k + 1) × (slice_get order k ≡ Some e)
has_last train order acyclic is = by (length order) refl (is.has 0 acyclic.entered)
  where
    by : (n : ℕ) → length order ≡ n → Contains order 0 → (k : ℕ) × (e : ℕ) × (length order ≡ k + 1) × (slice_get order k ≡ Some e)
    by zero long (j, lt, at) = absurd (omega (arith, lt, long))
    by (suc k) long there = (k, get_or order k 0, omega (arith, long), slice_get-get_or order k 0 (omega (arith, long)))

-- what a way goes on to stays among the operations in front
pub way_inside : (train : List Operation) (order : List ℕ) (i p : ℕ) (rest : List ℕ) → IsBehind train order → Contains (take i order) p → GoesOn train p rest → (q : ℕ) → Contains (p ∷ rest) q → Contains (take i order) q
way_inside train order i p [] behind there goes q on = elim (contains_cases p q [] on) [ inl e ↦ subst (λ (x : ℕ). Contains (take i order) x) e there | inr later ↦ absurd (contains_none q later) ]
way_inside train order i p (s ∷ rest) behind there goes q on = elim (contains_cases p q (s ∷ rest) on) [
  | inl e ↦ subst (λ (x : ℕ). Contains (take i order) x) e there
  | inr later ↦
      let place = at_contains (take i order) p there in
      let found = at_taken order i place.0 p place.1 in
      way_inside train order i s rest behind (taken_more order i place.0 s (omega (arith, found.0)) (behind.behind place.0 p s found.1 goes.0)) goes.1 q later
]
