-- The pairs that were drawn, by their places.
use Rattle.std.proofs.Common.{◌≡◌, ◌∙◌, ◌⊎◌, ℕ, zero, suc, ◌+◌, ◌<◌, ◌≤◌, List, [], ◌∷◌, ◌++◌, length, get_or, Some, refl, sym, ap, inl, inr, arith, length-append}
use Rattle.std.specs.Prelude.{slice_get}
use Rattle.std.proofs.Math.Seq.{get_or-append_seam}
use Rattle.std.proofs.lemmas.Bool.{cases_lt}
use Rattle.std.proofs.lemmas.List.{get_or_append_left}
use Rattle.std.proofs.lemmas.Option.{slice_get_within, get_or_from_slice_get}
use Rattle.instance_maker.specs.declared.draws.Pair.{Pair}
use Rattle.instance_maker.specs.Draws.{pair_at, pairs_of}

pub pairs_count : (number n : ℕ) → length (pairs_of number n) ≡ n
pairs_count number zero = refl
pairs_count number (suc n) =
    length-append (pairs_of number n) (pair_at number n ∷ []) ∙ omega (arith, pairs_count number n)

place : (number n k : ℕ) (d : Pair) → k < n → get_or (pairs_of number n) k d ≡ pair_at number k
place number zero k d lt = absurd (omega (arith, lt))
place number (suc n) k d lt = go (cases_lt k n) (λ below. place number n k d below)
  where
    last : k ≡ n → get_or (pairs_of number n ++ pair_at number n ∷ []) k d ≡ pair_at number k
    last is = rw is (
        ap (λ j. get_or (pairs_of number n ++ pair_at number n ∷ []) j d) (sym (pairs_count number n))
        ∙ get_or-append_seam (pairs_of number n) (pair_at number n) [] d
        )

    go : (k < n) ⊎ (n ≤ k) → (k < n → get_or (pairs_of number n) k d ≡ pair_at number k)
        → get_or (pairs_of number n ++ pair_at number n ∷ []) k d ≡ pair_at number k
    go (inl below) earlier = get_or_append_left (pairs_of number n) (pair_at number n ∷ []) d k
        (rw (pairs_count number n) below) ∙ earlier below
    go (inr not_below) earlier = last (omega (arith, lt, not_below))

-- what stands at a place was drawn for it
pub drawn_at : (number n k : ℕ) (pair : Pair) → slice_get (pairs_of number n) k ≡ Some pair
    → pair ≡ pair_at number k
drawn_at number n k pair at =
    let within : k < n =
    omega (arith, slice_get_within (pairs_of number n) k pair at, pairs_count number n) in
    sym (get_or_from_slice_get (pairs_of number n) k pair pair at) ∙ place number n k pair within

-- one more
pub one_more : {X : Type 0} (list_of : ℕ → List X) (t : ℕ) (old new : List X) (one wanted : X)
    → list_of (suc t) ≡ list_of t ++ wanted ∷ [] → new ≡ old ++ one ∷ [] → old ≡ list_of t
    → one ≡ wanted → new ≡ list_of (t + 1)
one_more {X = X} list_of t old new one wanted next is before same =
    let more : suc t ≡ t + 1 = omega arith in
    rw (← more) (is ∙ ap (λ (l : List X). l ++ one ∷ []) before
    ∙ ap (λ (x : X). list_of t ++ x ∷ []) same ∙ sym next)
