-- Walks of one list of arcs in another, and with one step more.
use Rattle.std.proofs.Common.{◌≡◌, ◌≢◌, ℕ, zero, suc, ◌+◌, ◌<◌, ◌≤◌, List, [], ◌∷◌, ◌++◌, refl, sym, ap, subst, arith, Contains}
use Rattle.std.specs.Prelude.{All}
use Rattle.std.proofs.lemmas.List.Elements.{All-cons, All-nil, All-weaker}
use Rattle.incremental_paths.specs.declared.arc.Arc.{Arc}
use Rattle.incremental_paths.specs.Walks.{JoinsPair, longest_arc, FollowsArcs, last_node_from, Leads, IsWalkTo, steps_length, walk_length, HasNoNodeTwice, IsArcCycle, ArcsHaveCycle}
use Rattle.incremental_paths.proofs.Members.{IsPart, joining, joined_part, longest_part}

pub Follows_part : (xs ys : List Arc) → IsPart xs ys → (u : ℕ) (rest : List ℕ) → FollowsArcs xs u rest → FollowsArcs ys u rest
Follows_part xs ys part u [] f = tt
Follows_part xs ys part u (v ∷ rest) f = (joined_part xs ys part u v f.0, Follows_part xs ys part v rest f.1)

pub steps_part : (xs ys : List Arc) → IsPart xs ys → (u : ℕ) (rest : List ℕ) → steps_length xs u rest ≤ steps_length ys u rest
steps_part xs ys part u [] = omega arith
steps_part xs ys part u (v ∷ rest) = omega (arith, longest_part xs ys part u v, steps_part xs ys part v rest)

pub walk_part : (lowers : List ℕ) (xs ys : List Arc) → IsPart xs ys → (v : ℕ) (nodes : List ℕ) → IsWalkTo lowers xs v nodes → IsWalkTo lowers ys v nodes
walk_part lowers xs ys part v [] w = w
walk_part lowers xs ys part v (u ∷ rest) w = (w.0, Follows_part xs ys part u rest w.1, w.2)

pub walk_length_part : (lowers : List ℕ) (xs ys : List Arc) → IsPart xs ys → (nodes : List ℕ) → walk_length lowers xs nodes ≤ walk_length lowers ys nodes
walk_length_part lowers xs ys part [] = omega arith
walk_length_part lowers xs ys part (u ∷ rest) = omega (arith, steps_part xs ys part u rest)

pub leads_part : (xs ys : List Arc) → IsPart xs ys → (u v : ℕ) (way : List ℕ) → Leads xs u v way → Leads ys u v way
leads_part xs ys part u v [] leads = leads
leads_part xs ys part u v (w ∷ rest) leads = (leads.0, Follows_part xs ys part w rest leads.1, leads.2)

-- one step more
pub Follows_push : (arcs : List Arc) (w u : ℕ) (rest : List ℕ) → FollowsArcs arcs u rest → JoinsPair arcs (last_node_from u rest) w → FollowsArcs arcs u (rest ++ w ∷ [])
Follows_push arcs w u [] f j = (j, tt)
Follows_push arcs w u (v ∷ rest) f j = (f.0, Follows_push arcs w v rest f.1 j)

pub last_push : (w u : ℕ) (rest : List ℕ) → last_node_from u (rest ++ w ∷ []) ≡ w
last_push w u [] = refl
last_push w u (v ∷ rest) = last_push w v rest

pub steps_push : (arcs : List Arc) (w u : ℕ) (rest : List ℕ) → steps_length arcs u (rest ++ w ∷ []) ≡ steps_length arcs u rest + longest_arc arcs (last_node_from u rest) w
steps_push arcs w u [] = omega arith
steps_push arcs w u (v ∷ rest) = omega (arith, steps_push arcs w v rest)

pub walk_push : (lowers : List ℕ) (arcs : List Arc) (v w : ℕ) (nodes : List ℕ) → IsWalkTo lowers arcs v nodes → JoinsPair arcs v w
    → IsWalkTo lowers arcs w (nodes ++ w ∷ []) × (walk_length lowers arcs (nodes ++ w ∷ []) ≡ walk_length lowers arcs nodes + longest_arc arcs v w)
walk_push lowers arcs v w [] walk j = absurd walk
walk_push lowers arcs v w (u ∷ rest) walk j =
    let j' : JoinsPair arcs (last_node_from u rest) w = subst (λ z. JoinsPair arcs z w) (sym walk.2) j in
    let e : longest_arc arcs (last_node_from u rest) w ≡ longest_arc arcs v w = ap (λ z. longest_arc arcs z w) walk.2 in
    ((walk.0, Follows_push arcs w u rest walk.1 j', last_push w u rest), omega (arith, steps_push arcs w u rest, e))

-- a node that is none of those behind it
pub apart_cons : (u : ℕ) (rest : List ℕ) → All (λ w. u ≢ w) rest → HasNoNodeTwice rest → HasNoNodeTwice (u ∷ rest)
apart_cons u rest here there zero zero d below within = absurd (omega (arith, below))
apart_cons u rest here there zero (suc j) d below within = here j d (omega arith)
apart_cons u rest here there (suc i) zero d below within = absurd (omega (arith, below))
apart_cons u rest here there (suc i) (suc j) d below within = there i j d (omega arith) (omega arith)

-- each arc leads to a node of a greater number
abbrev pub Rises : List Arc → (ℕ → ℕ) → Type 0
Rises arcs f = (a : Arc) → Contains arcs a → f a.from < f a.to

module _ (arcs : List Arc) (f : ℕ → ℕ) (rises : Rises arcs f) where
  pub rises_joined : (u v : ℕ) → JoinsPair arcs u v → f u < f v
  rises_joined u v j =
      let a = joining arcs u v j in
      let e : f a.0.from ≡ f u = ap f a.2 in
      let e' : f a.0.to ≡ f v = ap f a.3 in
      omega (arith, rises a.0 a.1)

  pub rises_last : (u : ℕ) (rest : List ℕ) → FollowsArcs arcs u rest → f u ≤ f (last_node_from u rest)
  rises_last u [] steps = omega arith
  rises_last u (v ∷ rest) steps = omega (arith, rises_joined u v steps.0, rises_last v rest steps.1)

  no_cycle_at : (nodes : List ℕ) → IsArcCycle arcs nodes → ⊥
  no_cycle_at [] c = c
  no_cycle_at (u ∷ rest) c = omega (arith, rises_last u rest c.0, rises_joined (last_node_from u rest) u c.1)

  pub no_cycle : ArcsHaveCycle arcs → ⊥
  no_cycle c = no_cycle_at c.0 c.1

  pub all_above : (u : ℕ) (rest : List ℕ) → FollowsArcs arcs u rest → All (λ w. f u < f w) rest
  all_above u [] steps = All-nil (λ w. f u < f w)
  all_above u (v ∷ rest) steps =
      All-cons (λ w. f u < f w) v rest (rises_joined u v steps.0)
      (All-weaker (λ w. f v < f w) (λ w. f u < f w) (λ w h. omega (arith, rises_joined u v steps.0)) rest (all_above v rest steps.1))

  pub no_node_twice : (u : ℕ) (rest : List ℕ) → FollowsArcs arcs u rest → HasNoNodeTwice (u ∷ rest)
  no_node_twice u [] steps = λ i j d below within. absurd (omega (arith, below, within))
  no_node_twice u (v ∷ rest) steps =
      apart_cons u (v ∷ rest) (All-weaker (λ w. f u < f w) (λ w. u ≢ w) (λ w h e. absurd (omega (arith, ap f e))) (v ∷ rest) (all_above u (v ∷ rest) steps)) (no_node_twice v rest steps.1)

pub walk_no_node_twice : (lowers : List ℕ) (arcs : List Arc) (f : ℕ → ℕ) → Rises arcs f → (v : ℕ) (nodes : List ℕ) → IsWalkTo lowers arcs v nodes → HasNoNodeTwice nodes
walk_no_node_twice lowers arcs f rises v [] w = absurd w
walk_no_node_twice lowers arcs f rises v (u ∷ rest) w = no_node_twice arcs f rises u rest w.1
