-- What short lists contain.
use Rattle.std.proofs.Common.{◌≡◌, zero, suc, List, [], ◌∷◌, ◌++◌, length, refl, ap, sym, arith}
use Rattle.std.specs.Prelude.{Contains}
use Rattle.std.proofs.lemmas.List.Elements.{Contains-append_right}

module _ {A : Type 0} where
  -- the empty list contains nothing
  pub contains_none : (x : A) → Contains [] x → ⊥
  contains_none x (k, lt, e) = omega arith

  -- nor does a list that is empty
  pub contains_none_where : (l : List A) (x : A) → l ≡ [] → Contains l x → ⊥
  contains_none_where l x e (k, lt, is) = let n : length l ≡ 0 = ap length e in omega arith

  -- what a list of one contains is that one
  pub contains_one : (a x : A) → Contains (a ∷ []) x → x ≡ a
  contains_one a x (zero, lt, e) = sym e
  contains_one a x (suc k, lt, e) = absurd (omega arith)

  -- a list contains what was added at its end
  pub contains_last : (l : List A) (x : A) → Contains (l ++ x ∷ []) x
  contains_last l x = Contains-append_right l (x ∷ []) x (0, omega arith, refl)
