-- What holds of each element so far.
use Rattle.std.proofs.Common.{◌≡◌, ℕ, ◌+◌, ◌-◌, ◌<◌, ◌≤◌, List, length, get_or, Some, ap, subst, ◌∙◌, inl, inr, arith}
use Rattle.std.specs.Prelude.{All, slice_get}
use Rattle.std.proofs.lemmas.Bool.{cases_lt}
use Rattle.std.proofs.lemmas.List.{get_or_default}
use Rattle.std.proofs.lemmas.Option.{slice_get-get_or, get_or_from_slice_get, slice_get_within}
use Rattle.disp_model.specs.declared.train.Op.{Op}
use Rattle.disp_model.specs.Node.{Node}
use Rattle.disp_model.specs.Arcs.{HasArc}
use Rattle.tree_checker.specs.Rules.{HasArcs}

-- it holds of one element more
pub one_more : {X : Type 0} (P : X → Type 0) (xs : List X) (i : ℕ) (e : X) → i < length xs → P (get_or xs i e) → ((k : ℕ) (d : X) → k < i → P (get_or xs k d)) → (k : ℕ) (d : X) → k < i + 1 → P (get_or xs k d)
one_more P xs i e lt here before k d within = elim (cases_lt k i) [
  | inl early ↦ before k d early
  | inr ge ↦
      let same : i ≡ k = omega (arith, within, ge) in
      subst (λ (n : ℕ). P (get_or xs n d)) same (subst P (get_or_default xs i e d lt) here)
]

-- it does not hold of all, where it does not of one
pub not_all : {X : Type 0} (P : X → Type 0) (xs : List X) (i : ℕ) (e : X) → i < length xs → (P (get_or xs i e) → ⊥) → All P xs → ⊥
not_all P xs i e lt not all = not (all i e lt)

-- ---- arcs from each operation to the next

pub joined_more : (node : Node) (walk : List Op) (p : ℕ) (d e : Op) → HasArc node (get_or walk (p - 1) d) (get_or walk p e) → ((i : ℕ) (u v : Op) → i + 1 < p → slice_get walk i ≡ Some u → slice_get walk (i + 1) ≡ Some v → HasArc node u v)
    → (i : ℕ) (u v : Op) → i + 1 < p + 1 → slice_get walk i ≡ Some u → slice_get walk (i + 1) ≡ Some v → HasArc node u v
joined_more node walk p d e arc before i u v within at next = elim (cases_lt (i + 1) p) [
  | inl early ↦ before i u v early at next
  | inr ge ↦
      let low : p - 1 ≡ i = omega (arith, within, ge) in
      let high : p ≡ i + 1 = omega (arith, within, ge) in
      let from : get_or walk (p - 1) d ≡ u = ap (λ (n : ℕ). get_or walk n d) low ∙ get_or_from_slice_get walk i u d at in
      let to : get_or walk p e ≡ v = ap (λ (n : ℕ). get_or walk n e) high ∙ get_or_from_slice_get walk (i + 1) v e next in
      subst (HasArc node u) to (subst (λ (x : Op). HasArc node x (get_or walk p e)) from arc)
]

pub not_joined : (node : Node) (walk : List Op) (p : ℕ) (d e : Op) → 1 ≤ p → p < length walk → (HasArc node (get_or walk (p - 1) d) (get_or walk p e) → ⊥) → HasArcs node walk → ⊥
not_joined node walk p d e some lt not joined =
    let high : p ≡ p - 1 + 1 = omega (arith, some) in
    let next : slice_get walk (p - 1 + 1) ≡ Some (get_or walk p e) = subst (λ (n : ℕ). slice_get walk n ≡ Some (get_or walk p e)) high (slice_get-get_or walk p e lt) in
    not (joined (p - 1) (get_or walk (p - 1) d) (get_or walk p e) (slice_get-get_or walk (p - 1) d (omega (arith, some, lt))) next)

pub joined_all : (node : Node) (walk : List Op) (p : ℕ) → length walk ≤ p → ((i : ℕ) (u v : Op) → i + 1 < p → slice_get walk i ≡ Some u → slice_get walk (i + 1) ≡ Some v → HasArc node u v) → HasArcs node walk
joined_all node walk p past before i u v at next = before i u v (omega (arith, past, slice_get_within walk (i + 1) v next)) at next
