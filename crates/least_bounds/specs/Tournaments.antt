-- A list of optional bounds, and a tournament over it: each inner node is the lesser of the two
-- below it.
use Rattle.std.specs.Prelude.{◌≡◌, ◌≢◌, ◌↔◌, ℕ, ◌+◌, ◌*◌, ◌<◌, ◌≤◌, List, Option, Some, None, length, min, slice_index_or}

-- the bound of a place, none past the end
abbrev pub bound_at : List (Option ℕ) → ℕ → Option ℕ
bound_at bounds place = slice_index_or bounds place None

-- there is a bound, and it is below the limit, if there is one
abbrev pub LiesBelow : Option ℕ → Option ℕ → Type 0
LiesBelow None limit = ⊥
LiesBelow (Some bound) None = Unit {0}
LiesBelow (Some bound) (Some limit) = bound < limit

abbrev pub NoneLiesBelow : List (Option ℕ) → Option ℕ → Type 0
NoneLiesBelow bounds limit = (place : ℕ) → LiesBelow (bound_at bounds place) limit → ⊥

abbrev pub HasNoBound : List (Option ℕ) → Type 0
HasNoBound bounds = (place : ℕ) → bound_at bounds place ≡ None

-- a place has this bound, and no place has a lesser one
pub record IsLeastBoundOf (bounds : List (Option ℕ)) (least : ℕ) : Type 0 where
  pub place : ℕ
  pub there : bound_at bounds place ≡ Some least
  pub lower : (other bound : ℕ) → bound_at bounds other ≡ Some bound → least ≤ bound

-- ---- the tournament

-- the lesser of two bounds, where there are any
abbrev pub lesser_bound : Option ℕ → Option ℕ → Option ℕ
lesser_bound None other = other
lesser_bound (Some bound) None = Some bound
lesser_bound (Some bound) (Some other) = Some (min bound other)

-- the node is the lesser of the two below it
abbrev pub IsLesserNode : List (Option ℕ) → ℕ → Type 0
IsLesserNode nodes i = bound_at nodes i ≡ lesser_bound (bound_at nodes (2 * i))
    (bound_at nodes (2 * i + 1))

-- each inner node but one is the lesser of the two below it
pub record AreLesserBut (nodes : List (Option ℕ)) (room hole : ℕ) : Type 0 where
  pub inner : (i : ℕ) → 1 ≤ i → i < room → i ≢ hole → IsLesserNode nodes i

-- each inner node from one on is the lesser of the two below it
pub record AreLesserFrom (nodes : List (Option ℕ)) (room from : ℕ) : Type 0 where
  pub inner : (i : ℕ) → 1 ≤ i → from ≤ i → i < room → IsLesserNode nodes i

-- the inner nodes stand in front of the places, of which there are no more
pub record IsTournament (nodes : List (Option ℕ)) (room : ℕ) : Type 0 where
  pub inner : (i : ℕ) → 1 ≤ i → i < room → IsLesserNode nodes i
  pub begins : room ≤ length nodes
  pub ends : length nodes ≤ 2 * room

-- the node is one of the two below another, and lies below the limit if either does
pub record IsChildBelow (nodes : List (Option ℕ)) (i : ℕ) (limit : Option ℕ) (child : ℕ)
    : Type 0 where
  pub after : 2 * i ≤ child
  pub before : child ≤ 2 * i + 1
  pub below : LiesBelow (lesser_bound (bound_at nodes (2 * i)) (bound_at nodes (2 * i + 1))) limit
      → LiesBelow (bound_at nodes child) limit
