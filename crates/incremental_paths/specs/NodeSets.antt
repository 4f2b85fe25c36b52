-- A set of nodes that is listed, and what the private fields of `NodeSet` keep true.
use Rattle.std.specs.Prelude.{◌≡◌, ℕ, ◌<◌, ◌≤◌, Bool, true, List, length, take, All, Contains}
use Rattle.incremental_paths.specs.Walks.{HasNoNodeTwice}
use Rattle.incremental_paths.specs.Ordered.{is_marked}

-- each node is below the size, and stands in the list once
pub record Members : Type 0 where
  pub size : ℕ
  pub listed : List ℕ

pub record AreMembers (marks : List Bool) (nodes : List ℕ) (count : ℕ) : Type 0 where
  pub sized : length marks ≡ length nodes
  pub enough : count ≤ length nodes
  pub within : All (λ v. v < length nodes) (take count nodes)
  pub once : HasNoNodeTwice (take count nodes)
  pub each : (v : ℕ) → Contains (take count nodes) v → is_marked marks v ≡ true
  pub only : (v : ℕ) → is_marked marks v ≡ true → Contains (take count nodes) v
