-- Places of nodes, and how they change where marked nodes move behind others.
use Rattle.std.specs.Prelude.{◌≡◌, ℕ, ◌<◌, ◌≤◌, ◌^◌, Bool, true, false, List, length, slice_index, slice_index_or}
use Rattle.std.proofs.Math.Bool.{beq}

-- the node is marked
abbrev pub is_marked : List Bool → ℕ → Bool
is_marked marks v = slice_index_or marks v false

-- the node is marked, if that is wanted, else it is not
abbrev pub is_as : List Bool → Bool → ℕ → Bool
is_as marks wanted v = beq (is_marked marks v) wanted

-- each node has a place, and each place a node
pub record AreOrdered (places nodes : List ℕ) : Type 0 where
  pub few : length nodes < 2 ^ 32
  pub as_many : length places ≡ length nodes
  pub place_of : (v : ℕ) → v < length places → (slice_index places v < length nodes)
      × (slice_index nodes (slice_index places v) ≡ v)
  pub node_at : (i : ℕ) → i < length nodes → (slice_index nodes i < length places)
      × (slice_index places (slice_index nodes i) ≡ i)

-- between two places the marked nodes have moved behind the others, and nothing else has changed
-- its order
pub record IsLifted (marks : List Bool) (low high : ℕ) (old new : List ℕ) : Type 0 where
  pub kept : (u v : ℕ) → u < length old → v < length old → slice_index old u < slice_index old v
      → (low ≤ slice_index old u → slice_index old v ≤ high → is_marked marks u ≡ true
      → is_marked marks v ≡ true) → slice_index new u < slice_index new v
  pub lifted : (u v : ℕ) → u < length old → v < length old → is_marked marks u ≡ false
      → is_marked marks v ≡ true
      → low ≤ slice_index old u → slice_index old u ≤ high → low ≤ slice_index old v
      → slice_index old v ≤ high → slice_index new u < slice_index new v
