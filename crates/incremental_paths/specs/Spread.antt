-- Lengths that walks reach, and arcs along which they have been spread.
use Rattle.std.specs.Prelude.{◌≡◌, ◌≢◌, ℕ, ◌+◌, ◌<◌, ◌≤◌, ◌^◌, Bool, false, List, [], ◌∷◌, ◌++◌, ◌⊎◌, length, map, slice_index, slice_index_or, slice_set, Contains}
use Rattle.incremental_paths.specs.declared.arc.Arc.{Arc}
use Rattle.incremental_paths.specs.declared.changes.Change.{Change}
use Rattle.incremental_paths.specs.Walks.{IsWalkTo, walk_length}
use Rattle.incremental_paths.specs.NodeSets.{Members}

-- no walk is longer than 2 ^ 64 - 1
abbrev pub WalksFit : List ℕ → List Arc → Type 0
WalksFit lowers arcs = (v : ℕ) (nodes : List ℕ) → IsWalkTo lowers arcs v nodes
    → walk_length lowers arcs nodes < 2 ^ 64

-- each node's length is that of a walk to it, and no walk to it is longer
pub record AreLengths (lowers : List ℕ) (arcs : List Arc) (lengths : List ℕ) : Type 0 where
  pub reached : (v : ℕ) → v < length lowers → (nodes : List ℕ) × IsWalkTo lowers arcs v nodes
      × (walk_length lowers arcs nodes ≡ slice_index lengths v)
  pub greatest : (v : ℕ) (nodes : List ℕ) → IsWalkTo lowers arcs v nodes
      → walk_length lowers arcs nodes ≤ slice_index lengths v

-- each node's length is at least its lower, and at most that of a walk to it
pub record AreReached (lowers : List ℕ) (arcs : List Arc) (lengths : List ℕ) : Type 0 where
  pub sized : length lengths ≡ length lowers
  pub lowest : (v : ℕ) → slice_index lowers v ≤ slice_index lengths v
  pub attained : (v : ℕ) → v < length lowers → (nodes : List ℕ) × IsWalkTo lowers arcs v nodes
      × (slice_index lengths v ≤ walk_length lowers arcs nodes)

-- the arc leads to no longer a length than its end has
abbrev pub IsSpread : List ℕ → Arc → Type 0
IsSpread lengths arc = slice_index lengths arc.from + arc.length ≤ slice_index lengths arc.to

-- lengths with what these changes, the last one first, have replaced
abbrev pub restored : List ℕ → List Change → List ℕ
restored lengths [] = lengths
restored lengths (change ∷ changes) = slice_set (restored lengths changes) change.node change.before

-- the changes so far, whether some are not among them, and the nodes of all
pub record Told : Type 0 where
  pub entries : List Change
  pub lost : Bool
  pub grown : Members

-- no changes, of n nodes
abbrev pub nothing_told : ℕ → Told
nothing_told n = record { entries = []; lost = false; grown = record { size = n; listed = [] } }

-- along each arc the lengths are spread, or its beginning has grown, and stands at this place or
-- behind it
abbrev pub AreWaiting : List Arc → List ℕ → List ℕ → Told → ℕ → Type 0
AreWaiting arcs places lengths told place = (k : ℕ) (d : Arc) → k < length arcs
    → IsSpread lengths (slice_index_or arcs k d)
    ⊎ (Contains told.grown.listed (slice_index_or arcs k d).from
    × (place ≤ slice_index places (slice_index_or arcs k d).from))

-- no node that has grown since stands behind this place
abbrev pub Reaches : List ℕ → Told → Told → ℕ → Type 0
Reaches places old new top = (v : ℕ) → Contains new.grown.listed v → Contains old.grown.listed v
    ⊎ (slice_index places v ≤ top)

-- along each arc the lengths are spread
abbrev pub AreSpread : List Arc → List ℕ → Type 0
AreSpread arcs lengths = (k : ℕ) (d : Arc) → k < length arcs
    → IsSpread lengths (slice_index_or arcs k d)

-- more changes have been told, from the one state to the other, and all nodes whose lengths grew
pub record TellsMore (old new : Told) (before after : List ℕ) : Type 0 where
  pub still : new.lost ≡ false → old.lost ≡ false
  pub more : List Change
  pub all : new.lost ≡ false → new.entries ≡ old.entries ++ more
  pub undone : new.lost ≡ false → restored after more ≡ before
  pub sized : length after ≡ length before
  pub within : (i : ℕ) → i < length more → slice_index (map (λ c. c.node) more) i < length before
  pub room : new.grown.size ≡ old.grown.size
  pub grows : (v : ℕ) → slice_index before v ≤ slice_index after v
  pub still_grown : (v : ℕ) → Contains old.grown.listed v → Contains new.grown.listed v
  pub all_grown : (v : ℕ) → slice_index before v < slice_index after v → Contains new.grown.listed v
  pub only_grown : (v : ℕ) → Contains new.grown.listed v → Contains old.grown.listed v
      ⊎ (slice_index before v < slice_index after v)
  pub each : (v : ℕ) → new.lost ≡ false → slice_index before v ≢ slice_index after v → (i : ℕ)
      × (i < length more) × (slice_index (map (λ c. c.node) more) i ≡ v)

-- the arc has been spread along, if need be by raising the length of its end
abbrev pub SpreadsOne : Arc → List ℕ → List ℕ → Type 0
SpreadsOne arc before after = ((slice_index before arc.from + arc.length ≤ slice_index before
    arc.to) × (after ≡ before))
    ⊎ ((slice_index before arc.to < slice_index before arc.from + arc.length)
    × (after ≡ slice_set before arc.to (slice_index before arc.from + arc.length)))

-- some arc leads from the node to v
abbrev pub IsArcEnd : List Arc → ℕ → ℕ → Type 0
IsArcEnd arcs node v = (k : ℕ) × (k < length arcs)
    × ((d : Arc) → ((slice_index_or arcs k d).from ≡ node) × ((slice_index_or arcs k d).to ≡ v))

-- lengths grew at ends of arcs of the node alone, and along each of these, or each that was spread
-- along, they are spread, where its beginning has not grown
pub record Spreads (arcs : List Arc) (node : ℕ) (before after : List ℕ) : Type 0 where
  pub sized : length after ≡ length before
  pub grows : (v : ℕ) → slice_index before v ≤ slice_index after v
  pub only : (v : ℕ) → slice_index before v ≢ slice_index after v → IsArcEnd arcs node v
  pub spread : (k : ℕ) (d : Arc) → k < length arcs → ((slice_index_or arcs k d).from ≡ node)
      ⊎ IsSpread before (slice_index_or arcs k d)
      → slice_index before (slice_index_or arcs k d).from ≡ slice_index after
      (slice_index_or arcs k d).from → IsSpread after (slice_index_or arcs k d)
