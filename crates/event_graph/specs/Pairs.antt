-- Orders that are decided, and the arcs that those of one operation add.
use Rattle.std.specs.Prelude.{◌≡◌, ℕ, ◌-◌, ◌<◌, ◌≤◌, List, All, Contains, Some, map, length, slice_get, slice_index, ◌⊎◌}
use Rattle.disp_model.specs.declared.train.Op.{Op}
use Rattle.disp_model.specs.declared.decision.Decision.TheVariants.{First}
use Rattle.disp_model.specs.Node.{Node}
use Rattle.disp_model.specs.Routes.{IsForced}
use Rattle.disp_model.specs.Arcs.{Conflicts}
use Rattle.incremental_paths.specs.declared.arc.Arc.{Arc}
use Rattle.incremental_paths.specs.Threaded.{Threaded}
use Rattle.event_arcs.specs.Listed.{IsArcOf}
use Rattle.event_arcs.specs.Ordering.{LeadsAsOrdered}
use Rattle.event_graph.specs.declared.orders.Pair.{Pair}

pub record Ordered : Type 0 where
  pub size : ℕ
  pub pairs : List Pair

-- each order stands at its place in the threads of its first operation and in those of its second
pub record AreThreaded (pairs : List Pair) (by_first by_second : Threaded) : Type 0 where
  pub firsts : by_first.keys ≡ map (λ p. p.from) pairs
  pub seconds : by_second.keys ≡ map (λ p. p.to) pairs
  pub sizes : by_second.size ≡ by_first.size

-- the order is decided at the node
abbrev pub IsDecidedAt : Node → Pair → Type 0
IsDecidedAt node pair = Contains node.decisions (First pair.first pair.second)

-- the order is that of the two operations, the first of which has the number
pub record IsOrderOf (from : ℕ) (first second : Op) (pair : Pair) : Type 0 where
  pub from_is : pair.from ≡ from
  pub first_is : pair.first ≡ first
  pub second_is : pair.second ≡ second

-- the order of the two operations is among the orders
abbrev pub HasOrder : List Pair → ℕ → Op → Op → Type 0
HasOrder pairs from first second = (pair : Pair) × Contains pairs pair
    × IsOrderOf from first second pair

-- no order from a place on is that of the two operations
abbrev pub HasNoOrderFrom : List Pair → ℕ → ℕ → Op → Op → Type 0
HasNoOrderFrom pairs place from first second = (i : ℕ) (pair : Pair) → place ≤ i
    → slice_get pairs i ≡ Some pair → IsOrderOf from first second pair → ⊥

-- one of the order's operations has the number
abbrev pub Touches : Pair → ℕ → Type 0
Touches pair number = (pair.from ≡ number) ⊎ (pair.to ≡ number)

-- with the arcs of those of the orders that are picked
pub record AddsTouching (Picks : Pair → Type 0) (node : Node) (pairs : List Pair)
    (old new : List Arc) : Type 0 where
  pub kept : (arc : Arc) → Contains old arc → Contains new arc
  pub sound : All (IsDecidedAt node) pairs → All (IsArcOf node) old → All (IsArcOf node) new
  pub leads : (pair : Pair) → Contains pairs pair → Picks pair → IsForced node pair.first
      → IsForced node pair.second → Conflicts node.problem pair.first pair.second
      → LeadsAsOrdered node new pair.first pair.second

-- a place of a number among keys: 0, or that of one of them
pub record IsPlaceOf (keys : List ℕ) (number place : ℕ) : Type 0 where
  pub within : place ≤ length keys
  pub last : 0 < place → slice_index keys (place - 1) ≡ number

-- with the arcs of those of the orders from a place on whose key is the number
pub record AddsFrom (key : Pair → ℕ) (number : ℕ) (node : Node) (pairs : List Pair) (place : ℕ)
    (old new : List Arc) : Type 0 where
  pub kept : (arc : Arc) → Contains old arc → Contains new arc
  pub sound : All (IsDecidedAt node) pairs → All (IsArcOf node) old → All (IsArcOf node) new
  pub leads : (i : ℕ) (pair : Pair) → place ≤ i → slice_get pairs i ≡ Some pair → key pair ≡ number
      → IsForced node pair.first → IsForced node pair.second
      → Conflicts node.problem pair.first pair.second
      → LeadsAsOrdered node new pair.first pair.second
