-- Marks as stamps that are equal to the last one.
use Rattle.std.proofs.Common.{◌≡◌, ℕ, ◌+◌, ◌≤◌, false, inl, inr, List, length, get_or, map, replicate, ◌∙◌, arith, eqb}
use Rattle.std.specs.Prelude.{All}
use Rattle.std.proofs.lemmas.List.{get_or-map, get_or_past, length-map, get_or-replicate, length-replicate}
use Rattle.std.proofs.lemmas.List.Elements.{All-get_or}
use Rattle.std.proofs.lemmas.Bool.{cases_lt, ne_eqb}

pub none_stamped : (stamps : List ℕ) (stamp v : ℕ) → All (λ s. s ≤ stamp) stamps → get_or (map (λ s. eqb s (stamp + 1)) stamps) v false ≡ false
none_stamped stamps stamp v all = elim (cases_lt v (length stamps)) [
  | inl lt ↦ get_or-map (λ s. eqb s (stamp + 1)) stamps v 0 false lt ∙ ne_eqb (get_or stamps v 0) (stamp + 1) (λ e. absurd (omega (arith, e, All-get_or (λ s. s ≤ stamp) stamps v 0 lt all)))
  | inr le ↦ get_or_past (map (λ s. eqb s (stamp + 1)) stamps) v false (simp length-map (omega (arith, le)))
]

pub zeros_low : (n : ℕ) → All (λ s. s ≤ 0) (replicate n 0)
zeros_low n k d lt = let e : get_or (replicate n 0) k d ≡ 0 = get_or-replicate n k 0 d (omega (arith, lt, length-replicate {A = ℕ} n 0)) in omega (arith, e)
