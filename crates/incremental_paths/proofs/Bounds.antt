-- Walks where there is no cycle: no node twice, and no longer than all arcs together.
use Rattle.std.proofs.Common.{◌≡◌, ◌≢◌, ℕ, zero, suc, ◌+◌, ◌-◌, ◌*◌, ◌^◌, ◌<◌, ◌≤◌, List, [], ◌∷◌, inl, inr, length, get_or, refl, sym, ◌∙◌, subst, arith, eqb}
use Rattle.std.specs.Prelude.{All, sum_by}
use Rattle.std.proofs.lemmas.Bool.{cases_eq, eqb-true}
use Rattle.std.proofs.lemmas.Bool.Decides.{nat_tests}
use Rattle.std.proofs.lemmas.List.Sums.{sum_by-cons, sum_by-le}
use Rattle.std.proofs.lemmas.List.Elements.{All-head, All-tail, All-from_get_or, All-get_or, All-weaker, All-cons, All-nil, All-contains}
use Rattle.std.proofs.lemmas.Map.Steps.{length-le_from_distinct_below}
use Rattle.std.proofs.lemmas.Map.Made.{IsDistinct-from_AllPairs}
use Rattle.std.proofs.lemmas.Bool.Decides.{Decides-eqb}
use Rattle.std.proofs.Math.Nat.{mul-le-mul_right}
use Rattle.std.proofs.lemmas.Map.Views.{Contains-from_any}
use Rattle.incremental_paths.proofs.Members.{joining, longest_le}
use Rattle.incremental_paths.specs.declared.arc.Arc.{Arc}
use Rattle.incremental_paths.specs.Walks.{JoinsPair, longest_arc, FollowsArcs, last_node_from, IsWalkTo, steps_length, walk_length, HasNoNodeTwice, ArcsHaveCycle, WalksAreShort}
use Rattle.incremental_paths.proofs.Walking.{apart_cons}

-- the steps up to a place where x stands
steps_to : (arcs : List Arc) (x u : ℕ) (rest : List ℕ) (k : ℕ) → FollowsArcs arcs u rest → k < length rest → get_or rest k 0 ≡ x
    → (before : List ℕ) × FollowsArcs arcs u before × JoinsPair arcs (last_node_from u before) x
steps_to arcs x u [] k f lt e = absurd (omega (arith, lt))
steps_to arcs x u (v ∷ rest) zero f lt e = ([], tt, subst (λ z. JoinsPair arcs u z) e f.0)
steps_to arcs x u (v ∷ rest) (suc k) f lt e =
    let h = steps_to arcs x v rest k f.1 (omega (arith, lt)) e in
    (v ∷ h.0, (f.0, h.1), h.2)

module _ (arcs : List Arc) (none : ArcsHaveCycle arcs → ⊥) where
  not_again : (u : ℕ) (rest : List ℕ) → FollowsArcs arcs u rest → All (λ w. u ≢ w) rest
  not_again u rest f = All-from_get_or (λ w. u ≢ w) rest 0 (λ k lt e.
      let h = steps_to arcs u u rest k f lt (sym e) in none (u ∷ h.0, (h.1, h.2)))

  follows_once : (u : ℕ) (rest : List ℕ) → FollowsArcs arcs u rest → HasNoNodeTwice (u ∷ rest)
  follows_once u [] f = λ i j d below within. absurd (omega (arith, below, within))
  follows_once u (v ∷ rest) f = apart_cons u (v ∷ rest) (not_again u (v ∷ rest) f) (follows_once v rest f.1)

  pub walks_once : (lowers : List ℕ) (v : ℕ) (nodes : List ℕ) → IsWalkTo lowers arcs v nodes → HasNoNodeTwice nodes
  walks_once lowers v [] walk = absurd walk
  walks_once lowers v (u ∷ rest) walk = follows_once u rest walk.1

-- of a list in which no node stands twice, the rest has none twice, and not the first
once_head : (u : ℕ) (rest : List ℕ) → HasNoNodeTwice (u ∷ rest) → All (λ w. u ≢ w) rest
once_head u rest once k d lt = once zero (suc k) d (omega arith) (omega (arith, lt))

once_tail : (u : ℕ) (rest : List ℕ) → HasNoNodeTwice (u ∷ rest) → HasNoNodeTwice rest
once_tail u rest once i j d below within = once (suc i) (suc j) d (omega (arith, below)) (omega (arith, within))

other_from : (a : Arc) (arcs : List Arc) (u v : ℕ) → u ≢ a.from → longest_arc (a ∷ arcs) u v ≡ longest_arc arcs u v
other_from a arcs u v other = let swapped : a.from ≡ u → ⊥ = λ e. other (sym e) in grind (arith, nat_tests)

any_from : (a : Arc) (arcs : List Arc) (u v : ℕ) → longest_arc (a ∷ arcs) u v ≤ a.length + longest_arc arcs u v
any_from a arcs u v = grind (arith, nat_tests)

-- an arc that begins at none of the nodes adds nothing
steps_without : (a : Arc) (arcs : List Arc) (u : ℕ) (rest : List ℕ) → u ≢ a.from → All (λ w. w ≢ a.from) rest → steps_length (a ∷ arcs) u rest ≡ steps_length arcs u rest
steps_without a arcs u [] here there = refl
steps_without a arcs u (v ∷ rest) here there =
    omega (arith, other_from a arcs u v here, steps_without a arcs v rest (All-head (λ w. w ≢ a.from) v rest there) (All-tail (λ w. w ≢ a.from) v rest there))

-- and any arc adds its length at most
steps_with : (a : Arc) (arcs : List Arc) (u : ℕ) (rest : List ℕ) → HasNoNodeTwice (u ∷ rest) → steps_length (a ∷ arcs) u rest ≤ a.length + steps_length arcs u rest
steps_with a arcs u [] once = omega arith
steps_with a arcs u (v ∷ rest) once = elim (cases_eq u a.from) [
  | inl same ↦
      let others : All (λ w. w ≢ a.from) (v ∷ rest) = λ k d lt e. once_head u (v ∷ rest) once k d lt (same ∙ sym e) in
      omega (arith, any_from a arcs u v, steps_without a arcs v rest (All-head (λ w. w ≢ a.from) v rest others) (All-tail (λ w. w ≢ a.from) v rest others))
  | inr other ↦ omega (arith, other_from a arcs u v other, steps_with a arcs v rest (once_tail u (v ∷ rest) once))
]

steps_bare : (u : ℕ) (rest : List ℕ) → steps_length [] u rest ≡ 0
steps_bare u [] = refl
steps_bare u (v ∷ rest) = omega (arith, steps_bare v rest)

steps_bounded : (arcs : List Arc) (u : ℕ) (rest : List ℕ) → HasNoNodeTwice (u ∷ rest) → steps_length arcs u rest ≤ sum_by (λ arc. arc.length) arcs
steps_bounded [] u rest once = omega (arith, steps_bare u rest)
steps_bounded (a ∷ arcs) u rest once = omega (arith, sum_by-cons (λ (arc : Arc). arc.length) a arcs, steps_with a arcs u rest once, steps_bounded arcs u rest once)

pub walks_bounded : (lowers : List ℕ) (arcs : List Arc) (most : ℕ) → All (λ lower. lower ≤ most) lowers → (ArcsHaveCycle arcs → ⊥)
    → (v : ℕ) (nodes : List ℕ) → IsWalkTo lowers arcs v nodes → walk_length lowers arcs nodes ≤ most + sum_by (λ arc. arc.length) arcs
walks_bounded lowers arcs most low none v [] walk = absurd walk
walks_bounded lowers arcs most low none v (u ∷ rest) walk =
    omega (arith, All-get_or (λ lower. lower ≤ most) lowers u 0 walk.0 low, steps_bounded arcs u rest (follows_once arcs none u rest walk.1))

-- walks over few arcs of small lengths, from small lowers on, are short
pub few_short : (lowers : List ℕ) (arcs : List Arc) → All (λ lower. lower < 2 ^ 32) lowers → All (λ arc. arc.length < 2 ^ 32) arcs → length arcs ≤ 1000 → (ArcsHaveCycle arcs → ⊥) → WalksAreShort lowers arcs
few_short lowers arcs low short few none v nodes walk =
    let sum : sum_by (λ arc. arc.length) arcs ≤ length arcs * 2 ^ 32 = sum_by-le (λ arc. arc.length) (2 ^ 32) arcs (All-weaker (λ arc. arc.length < 2 ^ 32) (λ arc. arc.length ≤ 2 ^ 32) (λ arc h. omega (arith, h)) arcs short) in
    omega (arith, sum, few, walks_bounded lowers arcs (2 ^ 32) (All-weaker (λ lower. lower < 2 ^ 32) (λ lower. lower ≤ 2 ^ 32) (λ lower h. omega (arith, h)) lowers low) none v nodes walk)

-- a walk has no more nodes than there are, where none stands in it twice
pub nodes_within : (lowers : List ℕ) (arcs : List Arc) → All (λ arc. arc.to < length lowers) arcs → (u : ℕ) (rest : List ℕ) → u < length lowers → FollowsArcs arcs u rest → All (λ w. w < length lowers) (u ∷ rest)
nodes_within lowers arcs ends u [] lt f = All-cons (λ w. w < length lowers) u [] lt (All-nil (λ w. w < length lowers))
nodes_within lowers arcs ends u (v ∷ rest) lt f =
    let a = joining arcs u v f.0 in
    let below : v < length lowers = rw a.3 at (All-contains (λ (z : Arc). z.to < length lowers) arcs a.0 ends a.1) in
    All-cons (λ w. w < length lowers) u (v ∷ rest) lt (nodes_within lowers arcs ends v rest below f.1)

pub few_nodes : (n : ℕ) (nodes : List ℕ) → HasNoNodeTwice nodes → All (λ w. w < n) nodes → length nodes ≤ n
few_nodes n nodes once all = length-le_from_distinct_below nodes n (IsDistinct-from_AllPairs {eq = eqb} Decides-eqb nodes once) (λ q there.
    let c = Contains-from_any {eq = eqb} eqb-true q nodes there in All-contains (λ w. w < n) nodes q all c)

steps_long : (arcs : List Arc) (longest : ℕ) → All (λ arc. arc.length ≤ longest) arcs → (u : ℕ) (rest : List ℕ) → steps_length arcs u rest ≤ length rest * longest
steps_long arcs longest all u [] = omega arith
steps_long arcs longest all u (v ∷ rest) =
    let one : longest_arc arcs u v ≤ longest = longest_le arcs u v longest (λ a c f t. All-contains (λ (z : Arc). z.length ≤ longest) arcs a all c) in
    omega (arith, one, steps_long arcs longest all v rest)

pub walks_bounded_by_nodes : (lowers : List ℕ) (arcs : List Arc) (most longest : ℕ) → All (λ lower. lower ≤ most) lowers → All (λ arc. arc.length ≤ longest) arcs → All (λ arc. arc.to < length lowers) arcs
    → (v : ℕ) (nodes : List ℕ) → IsWalkTo lowers arcs v nodes → HasNoNodeTwice nodes → walk_length lowers arcs nodes ≤ most + (length lowers - 1) * longest
walks_bounded_by_nodes lowers arcs most longest low all ends v [] walk once = absurd walk
walks_bounded_by_nodes lowers arcs most longest low all ends v (u ∷ rest) walk once =
    let few = few_nodes (length lowers) (u ∷ rest) once (nodes_within lowers arcs ends u rest walk.0 walk.1) in
    let le : length rest ≤ length lowers - 1 = omega (arith, few) in
    let more : length rest * longest ≤ (length lowers - 1) * longest = mul-le-mul_right longest le in
    omega (arith, All-get_or (λ lower. lower ≤ most) lowers u 0 walk.0 low, steps_long arcs longest all u rest, more)
