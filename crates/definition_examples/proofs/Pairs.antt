-- Facts of each pair of places of a list, by recursion on the list; and of what an option is known to hold.
use Rattle.std.proofs.Common.{◌≡◌, ℕ, zero, suc, ◌+◌, ◌<◌, List, [], ◌∷◌, Some, subst, arith}
use Rattle.std.specs.Prelude.{slice_get}
use Rattle.std.proofs.lemmas.Option.{none-some, same_Some}

-- each element of a list, with its place
abbrev pub Places : {X : Type 0} → (ℕ → X → Type 0) → ℕ → List X → Type 0
Places P k [] = Unit {0}
Places P k (x ∷ xs) = P k x × Places P (k + 1) xs

pub at_place : {X : Type 0} (P : ℕ → X → Type 0) (k : ℕ) (xs : List X) → Places P k xs → (j : ℕ) (x : X) → slice_get xs j ≡ Some x → P (k + j) x
at_place P k [] h j x at = absurd (none-some x at)
at_place P k (y ∷ xs) h zero x at =
    let same : k + 0 ≡ k = omega arith in
    rw same (subst (P k) (same_Some y x at) h.0)
at_place P k (y ∷ xs) h (suc j) x at =
    let same : k + suc j ≡ (k + 1) + j = omega arith in
    rw same (at_place P (k + 1) xs h.1 j x at)

-- each element with each later one, and their places
abbrev pub PairPlaces : {X : Type 0} → (ℕ → X → ℕ → X → Type 0) → ℕ → List X → Type 0
PairPlaces P k [] = Unit {0}
PairPlaces P k (x ∷ xs) = Places (P k x) (k + 1) xs × PairPlaces P (k + 1) xs

pub at_pair : {X : Type 0} (P : ℕ → X → ℕ → X → Type 0) (k : ℕ) (xs : List X) → PairPlaces P k xs
    → (i j : ℕ) (x y : X) → i < j → slice_get xs i ≡ Some x → slice_get xs j ≡ Some y → P (k + i) x (k + j) y
at_pair P k [] h i j x y lt at_i at_j = absurd (none-some x at_i)
at_pair P k (z ∷ xs) h zero zero x y lt at_i at_j = absurd (omega arith)
at_pair P k (z ∷ xs) h zero (suc j) x y lt at_i at_j =
    let here : k + 0 ≡ k = omega arith in
    let there : k + suc j ≡ (k + 1) + j = omega arith in
    rw here (rw there (subst (λ w. P k w ((k + 1) + j) y) (same_Some z x at_i) (at_place (P k z) (k + 1) xs h.0 j y at_j)))
at_pair P k (z ∷ xs) h (suc i) zero x y lt at_i at_j = absurd (omega arith)
at_pair P k (z ∷ xs) h (suc i) (suc j) x y lt at_i at_j =
    let less : i < j = omega arith in
    let here : k + suc i ≡ (k + 1) + i = omega arith in
    let there : k + suc j ≡ (k + 1) + j = omega arith in
    rw here (rw there (at_pair P (k + 1) xs h.1 i j x y less at_i at_j))

-- what holds of each place, from the first on
pub at_each : {X : Type 0} (P : ℕ → X → Type 0) (xs : List X) → Places P 0 xs → (j : ℕ) (x : X) → slice_get xs j ≡ Some x → P j x
at_each P xs h j x at =
    let same : 0 + j ≡ j = omega arith in
    subst (λ k. P k x) same (at_place P 0 xs h j x at)
