-- What a short list contains, and where a short list is parted.
use Rattle.std.proofs.Common.{◌≡◌, ◌≢◌, ◌⊎◌, inl, inr, ℕ, zero, suc, List, [], ◌∷◌, ◌++◌, sym, arith}
use Rattle.std.specs.Prelude.{Contains}

pub in_one : (a x : ℕ) → Contains (a ∷ []) x → x ≡ a
in_one a x h = grind (arith, h)

pub in_two : (a b x : ℕ) → Contains (a ∷ b ∷ []) x → (x ≡ a) ⊎ (x ≡ b)
in_two a b x (zero, lt, at) = inl (sym at)
in_two a b x (suc zero, lt, at) = inr (sym at)
in_two a b x (suc (suc k), lt, at) = absurd (omega (arith, lt))

pub nil_parts : (xs : List ℕ) (y : ℕ) (ys : List ℕ) → [] ≡ xs ++ y ∷ ys → ⊥
nil_parts [] y ys e = grind (arith, e)
nil_parts (x ∷ xs) y ys e = grind (arith, e)

-- a list of three, the middle one neither the first nor the last, is parted at the first and the last in one way
pub parted : (f a l : ℕ) (before between behind : List ℕ) → a ≢ f → a ≢ l → f ≢ l
    → f ∷ a ∷ l ∷ [] ≡ before ++ f ∷ (between ++ l ∷ behind) → between ≡ a ∷ []
parted f a l [] [] behind af al fl e = absurd (grind (arith, e, al))
parted f a l [] (x ∷ []) behind af al fl e = grind (arith, e)
parted f a l [] (x ∷ y ∷ []) behind af al fl e = absurd (grind (arith, e))
parted f a l [] (x ∷ y ∷ z ∷ between) behind af al fl e = absurd (grind (arith, e))
parted f a l (p ∷ []) between behind af al fl e = absurd (grind (arith, e, af))
parted f a l (p ∷ q ∷ []) between behind af al fl e = absurd (grind (arith, e, fl))
parted f a l (p ∷ q ∷ r ∷ before) between behind af al fl e =
    absurd (nil_parts before f (between ++ l ∷ behind) (grind (arith, e)))
