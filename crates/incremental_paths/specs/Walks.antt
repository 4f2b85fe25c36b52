-- Walks over lowers and a list of arcs, their lengths, and cycles.
use Rattle.std.specs.Prelude.{◌≡◌, ◌≢◌, ℕ, ◌+◌, ◌<◌, ◌≤◌, ◌^◌, max, List, [], ◌∷◌, length, slice_index, Any, AllPairs, if◌then◌else◌, ◌==◌, ◌&&◌}
use Rattle.incremental_paths.specs.declared.arc.Arc.{Arc}

-- some arc leads from u to v
abbrev pub JoinsPair : List Arc → ℕ → ℕ → Type 0
JoinsPair arcs u v = Any (λ arc. (arc.from ≡ u) × (arc.to ≡ v)) arcs

-- the length of the longest arc from u to v, and 0 where there is none
abbrev pub longest_arc : List Arc → ℕ → ℕ → ℕ
longest_arc [] u v = 0
longest_arc (arc ∷ arcs) u v = max (if (arc.from == u) && (arc.to == v) then arc.length else 0)
    (longest_arc arcs u v)

-- from u on, each next node is reached by an arc
abbrev pub FollowsArcs : List Arc → ℕ → List ℕ → Type 0
FollowsArcs arcs u [] = Unit {0}
FollowsArcs arcs u (v ∷ rest) = JoinsPair arcs u v × FollowsArcs arcs v rest

-- the last of u and the nodes after it
abbrev pub last_node_from : ℕ → List ℕ → ℕ
last_node_from u [] = u
last_node_from u (v ∷ rest) = last_node_from v rest

-- at least one node, the last of which is v, and consecutive ones are joined by an arc
abbrev pub IsWalkTo : List ℕ → List Arc → ℕ → List ℕ → Type 0
IsWalkTo lowers arcs v [] = ⊥
IsWalkTo lowers arcs v (u ∷ rest) = (u < length lowers) × FollowsArcs arcs u rest
    × (last_node_from u rest ≡ v)

-- the nodes of a way from u to v: u first, v last, each next one reached by an arc
abbrev pub Leads : List Arc → ℕ → ℕ → List ℕ → Type 0
Leads arcs u v [] = ⊥
Leads arcs u v (w ∷ rest) = (w ≡ u) × FollowsArcs arcs w rest × (last_node_from w rest ≡ v)

-- the longest arc of each step from u on, added up
abbrev pub steps_length : List Arc → ℕ → List ℕ → ℕ
steps_length arcs u [] = 0
steps_length arcs u (v ∷ rest) = longest_arc arcs u v + steps_length arcs v rest

-- the lower of the first node, plus the longest arc of each step
abbrev pub walk_length : List ℕ → List Arc → List ℕ → ℕ
walk_length lowers arcs [] = 0
walk_length lowers arcs (u ∷ rest) = slice_index lowers u + steps_length arcs u rest

-- no node stands twice in the list
abbrev pub HasNoNodeTwice : List ℕ → Type 0
HasNoNodeTwice nodes = AllPairs (λ u v. u ≢ v) nodes

-- the greatest length of a walk that ends in v and has no node twice
pub record IsLongestLength (lowers : List ℕ) (arcs : List Arc) (v longest : ℕ) : Type 0 where
  pub reached : (nodes : List ℕ) × IsWalkTo lowers arcs v nodes × HasNoNodeTwice nodes
      × (walk_length lowers arcs nodes ≡ longest)
  pub greatest : (nodes : List ℕ) → IsWalkTo lowers arcs v nodes → HasNoNodeTwice nodes
      → walk_length lowers arcs nodes ≤ longest

-- an arc leads from each node to the next, and from the last to the first
abbrev pub IsArcCycle : List Arc → List ℕ → Type 0
IsArcCycle arcs [] = ⊥
IsArcCycle arcs (u ∷ rest) = FollowsArcs arcs u rest × JoinsPair arcs (last_node_from u rest) u

abbrev pub ArcsHaveCycle : List Arc → Type 0
ArcsHaveCycle arcs = (nodes : List ℕ) × IsArcCycle arcs nodes

-- no walk is longer than 2 ^ 63 - 1
abbrev pub WalksAreShort : List ℕ → List Arc → Type 0
WalksAreShort lowers arcs = (v : ℕ) (nodes : List ℕ) → IsWalkTo lowers arcs v nodes
    → walk_length lowers arcs nodes < 2 ^ 63
