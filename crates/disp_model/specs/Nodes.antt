-- When a node of the search is dead, and what its forced components add up to.
use Rattle.std.specs.Prelude.{◌≡◌, ◌⊎◌, ℕ, ◌+◌, ◌<◌, List, [], ◌∷◌, Some}
use Rattle.disp_model.specs.declared.train.Op.{Op}
use Rattle.disp_model.specs.declared.train.Component.{Component}
use Rattle.disp_model.specs.Cost.{cost_at}
use Rattle.disp_model.specs.Node.{Node}
use Rattle.disp_model.specs.Routes.{HasNoRoute, IsForced}
use Rattle.disp_model.specs.Walks.{upper_of, IsLongest, HasCycle}

-- some operation's longest walk is longer than its upper
pub record HasLate (node : Node) : Type 0 where
  pub operation : Op
  pub total : ℕ
  pub longest : IsLongest node operation total
  pub upper : ℕ
  pub upper_is : upper_of node.problem node.fixings operation ≡ Some upper
  pub late : upper < total

-- a dead node: a train has no allowed route, the arcs have a cycle, or an operation cannot start in
-- time
abbrev pub IsDead : Node → Type 0
IsDead node = HasNoRoute node ⊎ (HasCycle node ⊎ HasLate node)

-- the operation of a component
abbrev pub component_op : Component → Op
component_op c = record { train = c.train; op = c.operation }

-- what a component adds: its cost at the longest walk to its operation, where that is forced
abbrev pub AddsForced : Node → Component → ℕ → Type 0
AddsForced node c cost =
    ((total : ℕ) × IsForced node (component_op c) × IsLongest node (component_op c) total
    × (cost ≡ cost_at c total))
    ⊎ ((IsForced node (component_op c) → ⊥) × (cost ≡ 0))

-- what these components add up to
abbrev pub ForcedAddUp : Node → List Component → ℕ → Type 0
ForcedAddUp node [] bound = bound ≡ 0
ForcedAddUp node (c ∷ components) bound =
    (cost : ℕ) × (rest : ℕ) × AddsForced node c cost × ForcedAddUp node components rest
    × (bound ≡ cost + rest)

-- what all components add up to
abbrev pub IsForcedBound : Node → ℕ → Type 0
IsForcedBound node bound = ForcedAddUp node node.problem.components bound
