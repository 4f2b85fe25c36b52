-- Walks and ways are traced back from their ends, along one arc after the other.
use Rattle.std.proofs.Common.{◌≡◌, ◌≢◌, ℕ, ◌+◌, ◌-◌, ◌<◌, ◌≤◌, Bool, true, false, List, [], ◌∷◌, ◌++◌, ◌⊎◌, inl, inr, length, get_or, reverse, refl, sym, ap, ◌∙◌, subst, arith, Contains}
use Rattle.std.proofs.lemmas.List.{reverse-append}
use Rattle.std.proofs.lemmas.Bool.{false≢true}
use Rattle.incremental_paths.specs.declared.arc.Arc.{Arc}
use Rattle.incremental_paths.specs.Walks.{JoinsPair, longest_arc, FollowsArcs, last_node_from, Leads, IsWalkTo, steps_length, walk_length}
use Rattle.incremental_paths.specs.Ordered.{is_marked}
use Rattle.incremental_paths.specs.Marked.{AreWithin, AreRising, AreMarks}
use Rattle.incremental_paths.specs.Spread.{AreLengths, AreReached, AreSpread, IsSpread}
use Rattle.incremental_paths.specs.Back.{GivesNode, ComesFromMarked}
use Rattle.incremental_paths.proofs.Members.{joined, joining, longest_ge, longest_le}
use Rattle.incremental_paths.proofs.Walking.{walk_push}

-- nodes that were noted from the end on, down to `at`
pub record IsTraced (arcs : List Arc) (node at : ℕ) (noted : List ℕ) : Type 0 where
  pub rest : List ℕ
  pub is_rest : reverse noted ≡ at ∷ rest
  pub follows : FollowsArcs arcs at rest
  pub ends : last_node_from at rest ≡ node

abbrev pub traced_none : (arcs : List Arc) (node : ℕ) → IsTraced arcs node node (node ∷ [])
traced_none arcs node = record { rest = []; is_rest = refl; follows = tt; ends = refl }

abbrev pub traced_more : (arcs : List Arc) (node at u : ℕ) (noted : List ℕ) → IsTraced arcs node at noted → JoinsPair arcs u at → IsTraced arcs node u (noted ++ u ∷ [])
traced_more arcs node at u noted traced j = record {
  rest = at ∷ traced.rest;
  is_rest = reverse-append noted (u ∷ []) ∙ ap (λ z. u ∷ z) traced.is_rest;
  follows = (j, traced.follows);
  ends = traced.ends;
}

pub traced_leads : (arcs : List Arc) (node at : ℕ) (noted : List ℕ) → IsTraced arcs node at noted → Leads arcs at node (reverse noted)
traced_leads arcs node at noted traced = rw traced.is_rest (refl, traced.follows, traced.ends)

-- and their steps add up to what the length of the end is longer by
abbrev pub AddsUp : List Arc → List ℕ → ℕ → ℕ → List ℕ → Type 0
AddsUp arcs lengths node at rest = get_or lengths at 0 + steps_length arcs at rest ≡ get_or lengths node 0

-- a list of nodes ends where it begins, or has a last step
split_from : (arcs : List Arc) (u v : ℕ) (rest : List ℕ) → FollowsArcs arcs u rest → last_node_from u rest ≡ v
    → (rest ≡ []) ⊎ ((before : List ℕ) × FollowsArcs arcs u before × JoinsPair arcs (last_node_from u before) v × (steps_length arcs u rest ≡ steps_length arcs u before + longest_arc arcs (last_node_from u before) v))
split_from arcs u v [] f e = inl refl
split_from arcs u v (x ∷ rest) f e =
    elim (split_from arcs x v rest f.1 e) [
      | inl none ↦
          let x_is_v : x ≡ v = sym (ap (last_node_from x) none) ∙ e in
          inr ([], tt, subst (λ z. JoinsPair arcs u z) x_is_v f.0, omega (arith, ap (steps_length arcs x) none, ap (λ z. longest_arc arcs u z) x_is_v))
      | inr h ↦ inr (x ∷ h.0, (f.0, h.1), h.2, omega (arith, h.3))
    ]

module _ (lowers : List ℕ) (arcs : List Arc) (within : AreWithin (length lowers) arcs) (lengths : List ℕ) (are : AreLengths lowers arcs lengths) where
  -- a step of a walk gives no more than the length of where it leads
  pub step_bound : (u v : ℕ) → JoinsPair arcs u v → get_or lengths u 0 + longest_arc arcs u v ≤ get_or lengths v 0
  step_bound u v j =
      let a = joining arcs u v j in
      let lt : u < length lowers = rw (ap (λ z. z.from) a.1.2 ∙ a.2) at (within a.1.0 a.0 a.1.1).0 in
      let walk = are.reached u lt in
      let more = walk_push lowers arcs u v walk.0 walk.1 j in
      omega (arith, walk.2, more.1, are.greatest v (walk.0 ++ v ∷ []) more.0)

  pub arc_bound : (a : Arc) → Contains arcs a → get_or lengths a.from 0 + a.length ≤ get_or lengths a.to 0
  arc_bound a c = omega (arith, longest_ge arcs a a.from a.to c refl refl, step_bound a.from a.to (joined arcs a a.from a.to c refl refl))

  -- no arc gives the node its length
  abbrev pub NoneGives : ℕ → Type 0
  NoneGives v = (k : ℕ) (d : Arc) → k < length arcs → (get_or arcs k d).to ≡ v → get_or lengths (get_or arcs k d).from 0 + (get_or arcs k d).length ≢ get_or lengths v 0

  some_gives : (u v : ℕ) → NoneGives v → JoinsPair arcs u v → get_or lengths v 0 ≤ get_or lengths u 0 + longest_arc arcs u v → ⊥
  some_gives u v none j le =
      let bound = step_bound u v j in
      let none_at : (a : Arc) → Contains arcs a → a.to ≡ v → get_or lengths a.from 0 + a.length ≢ get_or lengths v 0 = λ a c t. subst (λ z. get_or lengths z.from 0 + z.length ≢ get_or lengths v 0) c.2 (none c.0 a c.1 (ap (λ z. z.to) c.2 ∙ t)) in
      let shorter : (a : Arc) → Contains arcs a → a.from ≡ u → a.to ≡ v → a.length < longest_arc arcs u v = λ a c f t.
      omega (arith, none_at a c t, longest_ge arcs a u v c f t, ap (λ z. get_or lengths z 0) f, bound, le) in
      let a = joining arcs u v j in
      let some = shorter a.0 a.1 a.2 a.3 in
      let most = longest_le arcs u v (longest_arc arcs u v - 1) (λ a c f t. omega (arith, shorter a c f t)) in
      omega (arith, some, most)

  own_lower_at : (v : ℕ) → NoneGives v → (nodes : List ℕ) → IsWalkTo lowers arcs v nodes → walk_length lowers arcs nodes ≡ get_or lengths v 0 → get_or lengths v 0 ≡ get_or lowers v 0
  own_lower_at v none [] walk e = absurd walk
  own_lower_at v none (u ∷ rest) walk e =
      elim (split_from arcs u v rest walk.1 walk.2) [
        | inl alone ↦ omega (arith, ap (steps_length arcs u) alone, e, ap (λ z. get_or lowers z 0) (sym (ap (last_node_from u) alone) ∙ walk.2))
        | inr h ↦
            let before : walk_length lowers arcs (u ∷ h.0) ≤ get_or lengths (last_node_from u h.0) 0 = are.greatest (last_node_from u h.0) (u ∷ h.0) (walk.0, h.1, refl) in
            absurd (some_gives (last_node_from u h.0) v none h.2 (omega (arith, before, e, h.3)))
      ]

  -- where no arc gives the node its length, it is the lower
  pub own_lower : (v : ℕ) → v < length lowers → NoneGives v → get_or lengths v 0 ≡ get_or lowers v 0
  own_lower v lt none = let walk = are.reached v lt in own_lower_at v none walk.0 walk.1 walk.2

  pub gives_joined : (u v : ℕ) → GivesNode arcs lengths u v → JoinsPair arcs u v × (get_or lengths u 0 + longest_arc arcs u v ≡ get_or lengths v 0)
  gives_joined u v g =
      let c : Contains arcs g.1 = (g.0, g.2, g.3) in
      let j = joined arcs g.1 u v c g.4 g.5 in
      (j, omega (arith, step_bound u v j, longest_ge arcs g.1 u v c g.4 g.5, g.6))

  pub traced_walk : (node at : ℕ) (noted : List ℕ) → at < length lowers → (traced : IsTraced arcs node at noted) → AddsUp arcs lengths node at traced.rest → get_or lengths at 0 ≡ get_or lowers at 0
      → IsWalkTo lowers arcs node (reverse noted) × (walk_length lowers arcs (reverse noted) ≡ get_or lengths node 0)
  traced_walk node at noted lt traced adds own = rw traced.is_rest ((lt, traced.follows, traced.ends), omega (arith, own, adds))

-- lengths that are reached, and spread along all arcs, are those of the longest walks
module _ (lowers : List ℕ) (arcs : List Arc) (lengths : List ℕ) (reached : AreReached lowers arcs lengths) (spread : AreSpread arcs lengths) where
  joined_bound : (u v : ℕ) → JoinsPair arcs u v → get_or lengths u 0 + longest_arc arcs u v ≤ get_or lengths v 0
  joined_bound u v j =
      let arc_spread : (a : Arc) → Contains arcs a → IsSpread lengths a = λ a c. subst (IsSpread lengths) c.2 (spread c.0 a c.1) in
      let each : (a : Arc) → Contains arcs a → a.from ≡ u → a.to ≡ v → get_or lengths u 0 + a.length ≤ get_or lengths v 0 = λ a c f t. omega (arith, arc_spread a c, ap (λ z. get_or lengths z 0) f, ap (λ z. get_or lengths z 0) t) in
      let a = joining arcs u v j in
      let le : get_or lengths u 0 ≤ get_or lengths v 0 = omega (arith, each a.0 a.1 a.2 a.3) in
      let most : longest_arc arcs u v ≤ get_or lengths v 0 - get_or lengths u 0 = longest_le arcs u v (get_or lengths v 0 - get_or lengths u 0) (λ a c f t. omega (arith, each a c f t)) in
      omega (arith, le, most)

  steps_bound : (u : ℕ) (rest : List ℕ) (so_far : ℕ) → so_far ≤ get_or lengths u 0 → FollowsArcs arcs u rest → so_far + steps_length arcs u rest ≤ get_or lengths (last_node_from u rest) 0
  steps_bound u [] so_far le f = omega (arith, le)
  steps_bound u (v ∷ rest) so_far le f =
      omega (arith, steps_bound v rest (so_far + longest_arc arcs u v) (omega (arith, le, joined_bound u v f.0)) f.1)

  greatest : (v : ℕ) (nodes : List ℕ) → IsWalkTo lowers arcs v nodes → walk_length lowers arcs nodes ≤ get_or lengths v 0
  greatest v [] walk = absurd walk
  greatest v (u ∷ rest) walk = omega (arith, steps_bound u rest (get_or lowers u 0) (reached.lowest u) walk.1, ap (λ z. get_or lengths z 0) walk.2)

  pub spread_lengths : AreLengths lowers arcs lengths
  spread_lengths = record {
    reached = λ v lt. let h = reached.attained v lt in (h.0, h.1, omega (arith, h.2, greatest v h.0 h.1));
    greatest = greatest;
  }

-- marks on the way from the start
module _ (arcs : List Arc) (places : List ℕ) (rising : AreRising arcs places) (start end : ℕ) (marks : List Bool) (are : AreMarks arcs places start end marks) where
  last_above : (u : ℕ) (rest : List ℕ) → FollowsArcs arcs u rest → get_or places u 0 ≤ get_or places (last_node_from u rest) 0
  last_above u [] f = omega arith
  last_above u (v ∷ rest) f =
      let a = joining arcs u v f.0 in
      let r = rising a.1.0 a.0 a.1.1 in
      let b = ap (λ z. get_or places z.from 0) a.1.2 in
      let e = ap (λ z. get_or places z.to 0) a.1.2 in
      omega (arith, r, b, e, ap (λ z. get_or places z 0) a.2, ap (λ z. get_or places z 0) a.3, last_above v rest f.1)

  step_marked : (u v : ℕ) → JoinsPair arcs u v → is_marked marks u ≡ true → get_or places u 0 < end → is_marked marks v ≡ true
  step_marked u v j m low =
      let a = joining arcs u v j in
      let from : (get_or arcs a.1.0 a.0).from ≡ u = ap (λ z. z.from) a.1.2 ∙ a.2 in
      let to : (get_or arcs a.1.0 a.0).to ≡ v = ap (λ z. z.to) a.1.2 ∙ a.3 in
      ap (is_marked marks) (sym to) ∙ are.closed a.1.0 a.0 a.1.1 (ap (is_marked marks) from ∙ m) (omega (arith, low, ap (λ z. get_or places z 0) from))

  pub step_up : (u v : ℕ) → JoinsPair arcs u v → get_or places u 0 < get_or places v 0
  step_up u v j =
      let a = joining arcs u v j in
      omega (arith, rising a.1.0 a.0 a.1.1, ap (λ z. get_or places z.from 0) a.1.2, ap (λ z. get_or places z.to 0) a.1.2, ap (λ z. get_or places z 0) a.2, ap (λ z. get_or places z 0) a.3)

  along : (u : ℕ) (rest : List ℕ) → is_marked marks u ≡ true → FollowsArcs arcs u rest → get_or places (last_node_from u rest) 0 ≤ end → is_marked marks (last_node_from u rest) ≡ true
  along u [] m f low = m
  along u (v ∷ rest) m f low =
      along v rest (step_marked u v f.0 m (omega (arith, low, last_above v rest f.1, step_up u v f.0))) f.1 low

  pub no_way : (to : ℕ) → is_marked marks to ≡ false → get_or places to 0 ≤ end → (way : List ℕ) → Leads arcs start to way → ⊥
  no_way to free low [] leads = leads
  no_way to free low (w ∷ rest) leads =
      let first : is_marked marks w ≡ true = rw leads.0 are.started in
      false≢true (sym free ∙ sym (ap (is_marked marks) leads.2) ∙ along w rest first leads.1 (omega (arith, low, ap (λ z. get_or places z 0) leads.2)))

  -- a marked node that is not the first is led to from a marked one
  pub comes_back : (at : ℕ) → is_marked marks at ≡ true → get_or places at 0 ≤ end → at ≢ start → (u : ℕ) × ComesFromMarked arcs marks u at
  comes_back at m low other =
      let h = are.sound at m in
      elim (split_from arcs start at h.0 h.1 h.2) [
        | inl alone ↦ absurd (other (sym h.2 ∙ ap (last_node_from start) alone))
        | inr s ↦
            let u = last_node_from start s.0 in
            let a = joining arcs u at s.2 in
            (u, (a.1.0, a.0, a.1.1, a.1.2, a.2, a.3, along start s.0 are.started s.1 (omega (arith, low, step_up u at s.2))))
      ]
