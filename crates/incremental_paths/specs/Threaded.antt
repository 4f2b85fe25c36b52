-- A list of nodes, each below a size, and where a node stands in it.
use Rattle.std.specs.Prelude.{◌≡◌, ◌≢◌, ℕ, ◌-◌, ◌<◌, ◌≤◌, List, [], ◌∷◌, ◌++◌, slice_index}

pub record Threaded : Type 0 where
  pub size : ℕ
  pub keys : List ℕ

-- one node more, behind the others
abbrev pub threaded_with : Threaded → ℕ → Threaded
threaded_with threaded node = record { size = threaded.size; keys = threaded.keys ++ node ∷ [] }

-- of the first k nodes, the last that is v ends the first `front`, and where that is 0, none is
pub record IsFront (keys : List ℕ) (k v front : ℕ) : Type 0 where
  pub within : front ≤ k
  pub last : 0 < front → slice_index keys (front - 1) ≡ v
  pub none_behind : (i : ℕ) → front ≤ i → i < k → slice_index keys i ≢ v
