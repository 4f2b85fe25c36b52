-- Sums of a function over the numbers below n.
use Rattle.std.proofs.Common.{◌≡◌, ◌≢◌, ℕ, zero, suc, ◌+◌, ◌<◌, ◌≤◌, inl, inr, List, [], ◌∷◌, subst, arith}
use Rattle.std.specs.Prelude.{sum_by, ◌⊎◌}
use Rattle.std.proofs.lemmas.Bool.{cases_eq}
use Rattle.std.proofs.lemmas.List.Sums.{sum_by-cons}

-- f (n - 1) + .. + f 0
abbrev pub sum_to : ℕ → (ℕ → ℕ) → ℕ
sum_to zero f = 0
sum_to (suc n) f = f n + sum_to n f

-- where each is no greater the sum is none
pub sum_to_le : (n : ℕ) (f g : ℕ → ℕ) → ((t : ℕ) → t < n → f t ≤ g t) → sum_to n f ≤ sum_to n g
sum_to_le zero f g each = omega arith
sum_to_le (suc n) f g each = omega (arith, each n (omega arith), sum_to_le n f g (λ t lt. each t (omega (arith, lt))))

-- so much may be taken out at one number
pub take_out : (n s x : ℕ) (f g : ℕ → ℕ) → s < n → x + g s ≤ f s → ((t : ℕ) → g t ≤ f t) → x + sum_to n g ≤ sum_to n f
take_out zero s x f g lt here each = absurd (omega (arith, lt))
take_out (suc n) s x f g lt here each = elim (cases_eq s n) [
  | inl e ↦
      let last : x + g n ≤ f n = subst (λ (t : ℕ). x + g t ≤ f t) e here in
      omega (arith, last, sum_to_le n g f (λ t less. each t))
  | inr other ↦ omega (arith, each n, take_out n s x f g (before s n lt other) here each)
]
  where
    before : (a b : ℕ) → a < suc b → a ≢ b → a < b
    before a b less not = omega (arith, less, not)

-- ---- each element has a number

module _ {X : Type 0} (H : ℕ → X → ℕ) (at : X → ℕ) (n : ℕ) (each : (x : X) → (at x < n) ⊎ (H (at x) x ≡ 0)) where
  more_at : (x : X) (xs : List X) (t : ℕ) → sum_by (H t) xs ≤ sum_by (H t) (x ∷ xs)
  more_at x xs t = omega (arith, sum_by-cons (H t) x xs)

  -- a sum over elements by their numbers is within the sums over numbers
  pub by_numbers : (xs : List X) → sum_by (λ x. H (at x) x) xs ≤ sum_to n (λ t. sum_by (H t) xs)
  by_numbers [] = omega arith
  by_numbers (x ∷ xs) =
      let first = sum_by-cons (λ (y : X). H (at y) y) x xs in
      let rest = by_numbers xs in
      elim (each x) [
        | inl lt ↦
            let out = take_out n (at x) (H (at x) x) (λ t. sum_by (H t) (x ∷ xs)) (λ t. sum_by (H t) xs) lt (omega (arith, sum_by-cons (H (at x)) x xs)) (more_at x xs) in
            omega (arith, first, rest, out)
        | inr none ↦ omega (arith, first, none, rest, sum_to_le n (λ t. sum_by (H t) xs) (λ t. sum_by (H t) (x ∷ xs)) (λ t lt. more_at x xs t))
      ]
