-- Counts of names, and places in lists.
use Rattle.std.proofs.Common.{
  ◌≡◌,
  ◌≢◌,
  ◌∙◌,
  ◌+◌,
  ◌<◌,
  ◌≤◌,
  ℕ,
  suc,
  zero,
  Bool,
  true,
  false,
  List,
  [],
  ◌∷◌,
  ◌++◌,
  length,
  take,
  drop,
  get_or,
  refl,
  sym,
  ap,
  arith,
}
use Rattle.std.specs.Bool.{Decides}
use Rattle.std.specs.Str.{bytes_eq}
use Rattle.std.proofs.Math.Seq.{take-suc}
use Rattle.std.proofs.lemmas.Slice.Eq.{bytes_eq-Decides}
use Rattle.disp_outside.specs.States.{Counts}

-- a count that did not rise, and does not fall, stays
pub stays : (old new : ℕ) → old ≤ new → (old < new → ⊥) → new ≡ old
stays old new le not = omega arith

-- one more element
pub one_more : {X : Type 0} (xs : List X) (i : ℕ) (x : X) → i < length xs → x ≡ get_or xs i x
    → take (i + 1) xs ≡ take i xs ++ x ∷ []
one_more {X = X} xs i x within is =
    let one : suc i ≡ i + 1 = omega arith in
    ap (λ (n : ℕ). take n xs) (sym one) ∙ take-suc xs i x within
    ∙ ap (λ (y : X). take i xs ++ y ∷ []) (sym is)

-- an element, and what stands before and behind it
pub parts_at : {X : Type 0} (xs : List X) (i : ℕ) (x : X) → i < length xs
    → xs ≡ take i xs ++ get_or xs i x ∷ drop (suc i) xs
parts_at [] i x within = absurd (omega (arith, within))
parts_at (first ∷ xs) zero x within = refl
parts_at {X = X} (first ∷ xs) (suc i) x within =
    ap (λ (l : List X). first ∷ l) (parts_at xs i x (omega (arith, within)))

-- where one value and all others stay, all stay
pub same_all : {X : Type 0} (one : List ℕ) (old new : List ℕ → X) → new one ≡ old one
    → ((name : List ℕ) → name ≢ one → new name ≡ old name) → (name : List ℕ) → new name ≡ old name
same_all {X = X} one old new here others name = go (bytes_eq name one) (bytes_eq-Decides name one)
  where
    go : (b : Bool) → Decides b (name ≡ one) → new name ≡ old name
    go true same = rw (same.0 refl) here
    go false apart = others name (λ e. different (apart.1 e))
      where
        different : false ≡ true → ⊥
        different e = cc

-- a count that does not fall for one name, and stays for the others, falls for none
pub never_falls : (one : List ℕ) (old new : Counts) → old one ≤ new one
    → ((other : List ℕ) → other ≢ one → new other ≡ old other) → (name : List ℕ)
    → old name ≤ new name
never_falls one old new counted others name = go (bytes_eq name one) (bytes_eq-Decides name one)
  where
    different : false ≡ true → ⊥
    different e = cc

    go : (b : Bool) → Decides b (name ≡ one) → old name ≤ new name
    go true same = rw (same.0 refl) counted
    go false apart = omega (arith, others name (λ e. different (apart.1 e)))
