-- What a caller sees of `Paths`: each node's lower, the arcs that are kept, and the nodes whose
-- lengths grew last.
use Rattle.std.specs.Prelude.{ℕ, ◌-◌, ◌<◌, ◌↔◌, max, List, [], ◌∷◌, ◌++◌, length, take, slice_index, slice_set, All, Contains}
use Rattle.incremental_paths.specs.declared.arc.Arc.{Arc}
use Rattle.incremental_paths.specs.Walks.{ArcsHaveCycle, WalksAreShort, IsLongestLength}

pub record Network : Type 0 where
  pub lowers : List ℕ
  pub arcs : List Arc
  pub changed : List ℕ

-- the same, with the order of the nodes that is kept: the place of each
pub record Placed : Type 0 where
  pub network : Network
  pub places : List ℕ

-- the node is there
abbrev pub IsNode : Network → ℕ → Type 0
IsNode network node = node < length network.lowers

-- one arc more, behind the others; no node is told as changed
abbrev pub with_arc : Network → ℕ → ℕ → ℕ → Network
with_arc network from to length = record {
  lowers = network.lowers;
  arcs = network.arcs
      ++ record { from = from; to = to; length = length } ∷ [];
  changed = [];
}

-- if the arcs have no cycle, no walk is longer than 2 ^ 63 - 1
abbrev pub IsShort : Network → Type 0
IsShort network = ¬ ArcsHaveCycle network.arcs → WalksAreShort network.lowers network.arcs

-- the last k arcs are taken away, and no node is told as changed
abbrev pub without_last : Network → ℕ → Network
without_last network k = record {
  lowers = network.lowers;
  arcs = take (length network.arcs - k) network.arcs;
  changed = [];
}

-- the node has the greater of its lower and this one; no node is told as changed
abbrev pub raised : Network → ℕ → ℕ → Network
raised network node lower = record {
  lowers = slice_set network.lowers node
      (max (slice_index network.lowers node) lower);
  arcs = network.arcs;
  changed = [];
}

-- the same lowers and arcs, and no node is told as changed
abbrev pub unchanged : Network → Network
unchanged network = record { lowers = network.lowers; arcs = network.arcs; changed = [] }

-- the node's length, over the lowers and the arcs
abbrev pub HasLength : Network → ℕ → ℕ → Type 0
HasLength network node longest = IsLongestLength network.lowers network.arcs node longest

-- from the old to the new, the nodes that are listed as changed are exactly those whose lengths
-- grew, and all others have kept theirs
pub record TellsChanged (old new : Network) : Type 0 where
  pub nodes : All (IsNode new) new.changed
  pub grew : (node before after : ℕ) → Contains new.changed node → HasLength old node before
      → HasLength new node after → before < after
  pub kept : (node longest : ℕ) → ¬ Contains new.changed node
      → (HasLength old node longest ↔ HasLength new node longest)
