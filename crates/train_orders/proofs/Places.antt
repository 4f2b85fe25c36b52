-- What stands where in a list that an element is added to, or set in.
use Rattle.std.proofs.Common.{◌≡◌, ℕ, zero, suc, ◌<◌, ◌⊎◌, List, [], ◌∷◌, ◌++◌, length, set, Some, refl, ap, inl, inr, arith}
use Rattle.std.specs.Prelude.{nat_eq, slice_get, Contains}
use Rattle.std.proofs.lemmas.Bool.{cases_Bool, eqb-true, eqb-false}
use Rattle.std.proofs.lemmas.Option.{none-some, same_Some}

pub at_contains : {X : Type 0} (xs : List X) (x : X) → Contains xs x → (i : ℕ) × (slice_get xs i ≡ Some x)
at_contains [] x (k, lt, e) = absurd (omega arith)
at_contains (y ∷ xs) x (zero, lt, e) = (0, ap Some e)
at_contains (y ∷ xs) x (suc k, lt, e) = let found = at_contains xs x (k, omega arith, e) in (suc found.0, found.1)

pub contains_at : {X : Type 0} (xs : List X) (x : X) (i : ℕ) → slice_get xs i ≡ Some x → Contains xs x
contains_at [] x i e = absurd (none-some x e)
contains_at (y ∷ xs) x zero e = (0, omega arith, same_Some y x e)
contains_at (y ∷ xs) x (suc i) e = let found = contains_at xs x i e in (suc found.0, omega (arith, found.1), found.2)

pub get_kept : {X : Type 0} (xs ys : List X) (x : X) (i : ℕ) → slice_get xs i ≡ Some x → slice_get (xs ++ ys) i ≡ Some x
get_kept [] ys x i e = absurd (none-some x e)
get_kept (y ∷ xs) ys x zero e = e
get_kept (y ∷ xs) ys x (suc i) e = get_kept xs ys x i e

pub get_last : {X : Type 0} (xs : List X) (y : X) → slice_get (xs ++ y ∷ []) (length xs) ≡ Some y
get_last [] y = refl
get_last (x ∷ xs) y = get_last xs y

pub get_push_cases : {X : Type 0} (xs : List X) (y x : X) (i : ℕ) → slice_get (xs ++ y ∷ []) i ≡ Some x → (slice_get xs i ≡ Some x) ⊎ ((i ≡ length xs) × (y ≡ x))
get_push_cases [] y x zero e = inr (refl, same_Some y x e)
get_push_cases [] y x (suc i) e = absurd (none-some x e)
get_push_cases (z ∷ xs) y x zero e = inl e
get_push_cases (z ∷ xs) y x (suc i) e = elim (get_push_cases xs y x i e) [ inl h ↦ inl h | inr h ↦ inr (ap suc h.0, h.1) ]

pub contains_none : {X : Type 0} (x : X) → Contains [] x → ⊥
contains_none x (k, lt, e) = omega arith

-- ---- a list with one element set

pub set_at : {X : Type 0} (xs : List X) (i : ℕ) (x : X) → i < length xs → slice_get (set xs i x) i ≡ Some x
set_at [] i x lt = absurd (omega arith)
set_at (y ∷ xs) zero x lt = refl
set_at (y ∷ xs) (suc i) x lt = set_at xs i x (omega arith)

pub set_elsewhere : {X : Type 0} (xs : List X) (i j : ℕ) (x : X) → (j ≡ i → ⊥) → slice_get (set xs i x) j ≡ slice_get xs j
set_elsewhere [] i j x other = refl
set_elsewhere (y ∷ xs) zero zero x other = absurd (other refl)
set_elsewhere (y ∷ xs) zero (suc j) x other = refl
set_elsewhere (y ∷ xs) (suc i) zero x other = refl
set_elsewhere (y ∷ xs) (suc i) (suc j) x other = set_elsewhere xs i j x (λ e. other (ap suc e))

pub same_number : (x y : ℕ) → (x ≡ y) ⊎ (x ≡ y → ⊥)
same_number x y = elim (cases_Bool (nat_eq x y)) [ inl is ↦ inl (eqb-true x y is) | inr is ↦ inr (λ e. eqb-false x y is e) ]
