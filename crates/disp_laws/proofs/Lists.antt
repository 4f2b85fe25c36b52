-- What is read of a list of which one place was set.
use Rattle.std.proofs.Common.{◌≡◌, ℕ, zero, suc, ◌<◌, List, [], ◌∷◌, length, set, Some, refl, sym, inl, inr, arith}
use Rattle.std.specs.Prelude.{◌⊎◌, ◌≢◌, slice_get}
use Rattle.std.proofs.lemmas.Option.{same_Some}

pub set_parts : {X : Type 0} (xs : List X) (p : ℕ) (y : X) (i : ℕ) (z : X) → p < length xs → slice_get (set xs p y) i ≡ Some z → ((i ≡ p) × (z ≡ y)) ⊎ ((i ≢ p) × (slice_get xs i ≡ Some z))
set_parts [] p y i z lt e = absurd (omega (arith, lt))
set_parts (x ∷ xs) zero y zero z lt e = inl (refl, sym (same_Some y z e))
set_parts (x ∷ xs) zero y (suc i) z lt e = inr (λ is. omega (arith, is), e)
set_parts (x ∷ xs) (suc p) y zero z lt e = inr (λ is. omega (arith, is), e)
set_parts (x ∷ xs) (suc p) y (suc i) z lt e = elim (set_parts xs p y i z (omega (arith, lt)) e) [
  | inl own ↦ inl (omega (arith, own.0), own.1)
  | inr other ↦ inr (λ is. other.0 (omega (arith, is)), other.1)
]
