-- Lists in which a relation holds of each element and each later one.
use Rattle.std.proofs.Common.{◌≡◌, ℕ, ◌+◌, ◌-◌, ◌<◌, Bool, true, false, List, ◌++◌, inl, inr, length, get_or, take, drop, filter, refl, sym, arith, Contains}
use Rattle.std.specs.Prelude.{AllPairs}
use Rattle.std.proofs.Math.Bool.{beq}
use Rattle.std.proofs.lemmas.Bool.{cases_lt, false≢true}
use Rattle.std.proofs.lemmas.List.{get_or_default, get_or_append_left, get_or-append_right, get_or-take, get_or-drop, length-append, length-take, length-drop}
use Rattle.std.proofs.lemmas.List.Elements.{All-contains, All-filter, All-contains_itself, filter_passes}

pub contains_at : {X : Type 0} (xs : List X) (i : ℕ) (d : X) → i < length xs → Contains xs (get_or xs i d)
contains_at xs i d lt = (i, lt, get_or_default xs i (get_or xs i d) d lt)

pub from_filter : {X : Type 0} (p : X → Bool) (xs : List X) (x : X) → Contains (filter p xs) x → Contains xs x × (p x ≡ true)
from_filter p xs x c = (
  All-contains (Contains xs) (filter p xs) x (All-filter p (Contains xs) xs (All-contains_itself xs)) c,
  All-contains (λ y. p y ≡ true) (filter p xs) x (filter_passes p xs) c,
)

pub beq_is : (a b : Bool) → beq a b ≡ true → a ≡ b
beq_is true true e = refl
beq_is true false e = absurd (false≢true e)
beq_is false true e = absurd (false≢true e)
beq_is false false e = refl

pub is_beq : (a b : Bool) → a ≡ b → beq a b ≡ true
is_beq true true e = refl
is_beq true false e = absurd (false≢true (sym e))
is_beq false true e = absurd (false≢true e)
is_beq false false e = refl

module _ {X : Type 0} (R : X → X → Type 0) where
  pub pairs_append : (xs ys : List X) → AllPairs R xs → AllPairs R ys → ((x y : X) → Contains xs x → Contains ys y → R x y) → AllPairs R (xs ++ ys)
  pairs_append xs ys px py cross i j d lt below =
      let all = length-append xs ys in
      elim (cases_lt j (length xs)) [
        | inl jx ↦ rw (get_or_append_left xs ys d i (omega (arith, lt, jx)), get_or_append_left xs ys d j jx) (px i j d lt jx)
        | inr jy ↦
            let j_lt : j - length xs < length ys = omega (arith, jy, below, all) in
            elim (cases_lt i (length xs)) [
              | inl ix ↦ rw (get_or_append_left xs ys d i ix, get_or-append_right xs ys (length xs) j d refl jy)
                  (cross (get_or xs i d) (get_or ys (j - length xs) d) (contains_at xs i d ix) (contains_at ys (j - length xs) d j_lt))
              | inr iy ↦ rw (get_or-append_right xs ys (length xs) i d refl iy, get_or-append_right xs ys (length xs) j d refl jy)
                  (py (i - length xs) (j - length xs) d (omega (arith, iy, jy, lt)) j_lt)
            ]
      ]

  pub pairs_take : (n : ℕ) (xs : List X) → AllPairs R xs → AllPairs R (take n xs)
  pairs_take n xs p i j d lt below =
      let all = length-take n xs in
      rw (get_or-take n xs i d (omega (arith, lt, below, all)), get_or-take n xs j d (omega (arith, below, all))) (p i j d lt (omega (arith, below, all)))

  pub pairs_drop : (n : ℕ) (xs : List X) → AllPairs R xs → AllPairs R (drop n xs)
  pairs_drop n xs p i j d lt below =
      rw (get_or-drop n xs i d, get_or-drop n xs j d) (p (n + i) (n + j) d (omega (arith, lt)) (omega (arith, below, length-drop n xs)))

  pub pairs_weaker : (S : X → X → Type 0) (xs : List X) → ((x y : X) → Contains xs x → Contains xs y → R x y → S x y) → AllPairs R xs → AllPairs S xs
  pairs_weaker S xs f p i j d lt below =
      f (get_or xs i d) (get_or xs j d) (contains_at xs i d (omega (arith, lt, below))) (contains_at xs j d below) (p i j d lt below)
