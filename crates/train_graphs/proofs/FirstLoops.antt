-- There is one first loop, or no train has a cycle.
use Rattle.std.proofs.Common.{◌≡◌, ℕ, ◌<◌, List, length, get_or, Some, sym, subst, ◌∙◌, inl, inr, arith}
use Rattle.std.specs.Prelude.{All, slice_get}
use Rattle.std.proofs.lemmas.Bool.{cases_lt}
use Rattle.std.proofs.lemmas.Option.{same_Some, slice_get_within, slice_get-get_or}
use Rattle.disp_model.specs.declared.train.Operation.{Operation}
use Rattle.train_graphs.specs.Graphs.{HasNoCycle, IsOnCycle, IsFirstLoop}

-- two first loops are one
pub first_loops_agree : (trains : List (List Operation)) (t o t' o' : ℕ) → IsFirstLoop trains t o → IsFirstLoop trains t' o' → (t ≡ t') × (o ≡ o')
first_loops_agree trains t o t' o' a b = (same-t, same-o)
  where
    same-t : t ≡ t'
    same-t = elim (cases_lt t t') [
      | inl lt ↦ absurd (b.before t a.train lt a.at o a.least.on)
      | inr le ↦ elim (cases_lt t' t) [
        | inl lt ↦ absurd (a.before t' b.train lt b.at o' b.least.on)
        | inr ge ↦ omega (arith, le, ge)
      ]
    ]

    same-train : a.train ≡ b.train
    same-train = same_Some a.train b.train (sym a.at ∙ subst (λ k. slice_get trains k ≡ Some b.train) (sym same-t) b.at)

    same-o : o ≡ o'
    same-o = elim (cases_lt o o') [
      | inl lt ↦ absurd (b.least.least o lt (subst (λ l. IsOnCycle l o) same-train a.least.on))
      | inr le ↦ elim (cases_lt o' o) [
        | inl lt ↦ absurd (a.least.least o' lt (subst (λ l. IsOnCycle l o') (sym same-train) b.least.on))
        | inr ge ↦ omega (arith, le, ge)
      ]
    ]

-- where some train has a cycle, not all have none
pub loop_is_cycle : (trains : List (List Operation)) (t o : ℕ) → IsFirstLoop trains t o → All HasNoCycle trains → ⊥
loop_is_cycle trains t o loop none =
    let within : t < length trains = slice_get_within trains t loop.train loop.at in
    let same : get_or trains t loop.train ≡ loop.train = same_Some _ _ (sym (slice_get-get_or trains t loop.train within) ∙ loop.at) in
    subst HasNoCycle same (none t loop.train within) o loop.least.on
