-- Where elements stand in a list, behind some of it, and as what a function makes of them.
use Rattle.std.proofs.Common.{◌≡◌, ℕ, zero, suc, ◌≤◌, List, [], ◌∷◌, drop, map, Some, refl, ap, ◌∙◌, arith, Contains}
use Rattle.std.specs.Prelude.{slice_get}
use Rattle.std.proofs.lemmas.Option.{none-some, same_Some, slice_get_within, slice_get-get_or, get_or_from_slice_get}

pub stands_in : {X : Type 0} (xs : List X) (i : ℕ) (x : X) → slice_get xs i ≡ Some x → Contains xs x
stands_in xs i x at = (i, slice_get_within xs i x at, get_or_from_slice_get xs i x x at)

pub stands_at : {X : Type 0} (xs : List X) (x : X) → Contains xs x → (i : ℕ) × (slice_get xs i ≡ Some x)
stands_at {X} xs x (i, lt, is) = (i, slice_get-get_or xs i x lt ∙ ap (λ (y : X). Some y) is)

pub stands_from : {X : Type 0} (xs : List X) (k j : ℕ) (x : X) → k ≤ j → slice_get xs j ≡ Some x → Contains (drop k xs) x
stands_from xs zero j x le at = stands_in xs j x at
stands_from [] (suc k) j x le at = absurd (none-some x at)
stands_from (y ∷ xs) (suc k) zero x le at = absurd (omega (arith, le))
stands_from (y ∷ xs) (suc k) (suc j) x le at = stands_from xs k j x (omega (arith, le)) at

dropped_at : {X : Type 0} (xs : List X) (i k : ℕ) (x : X) → slice_get (drop i xs) k ≡ Some x → (j : ℕ) × (i ≤ j) × (slice_get xs j ≡ Some x)
dropped_at xs zero k x at = (k, omega arith, at)
dropped_at [] (suc i) k x at = absurd (none-some x at)
dropped_at (y ∷ xs) (suc i) k x at = let later = dropped_at xs i k x at in (suc later.0, omega (arith, later.1), later.2)

pub dropped_stands : {X : Type 0} (xs : List X) (i : ℕ) (x : X) → Contains (drop i xs) x → (j : ℕ) × (i ≤ j) × (slice_get xs j ≡ Some x)
dropped_stands xs i x there = let at = stands_at (drop i xs) x there in dropped_at xs i at.0 x at.1

pub mapped_at : {X Y : Type 0} (f : X → Y) (xs : List X) (i : ℕ) (x : X) → slice_get xs i ≡ Some x → slice_get (map f xs) i ≡ Some (f x)
mapped_at f [] i x at = absurd (none-some x at)
mapped_at {X} {Y} f (y ∷ xs) zero x at = ap (λ (z : X). Some (f z)) (same_Some y x at)
mapped_at f (y ∷ xs) (suc i) x at = mapped_at f xs i x at

pub from_mapped_at : {X Y : Type 0} (f : X → Y) (xs : List X) (i : ℕ) (y : Y) → slice_get (map f xs) i ≡ Some y → (x : X) × (slice_get xs i ≡ Some x) × (f x ≡ y)
from_mapped_at f [] i y at = absurd (none-some y at)
from_mapped_at f (x ∷ xs) zero y at = (x, refl, same_Some (f x) y at)
from_mapped_at f (x ∷ xs) (suc i) y at = from_mapped_at f xs i y at
