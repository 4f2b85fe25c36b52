-- Arcs of the orders that are decided, added one after the other.
use Rattle.std.specs.Prelude.{◌≡◌, ℕ, ◌+◌, List, [], ◌∷◌, All, Contains, Option, Some, None}
use Rattle.disp_model.specs.declared.train.Op.{Op}
use Rattle.disp_model.specs.declared.decision.Decision.{Decision}
use Rattle.disp_model.specs.declared.decision.Decision.TheVariants.{First}
use Rattle.disp_model.specs.Numbers.{number_of}
use Rattle.disp_model.specs.Node.{Node}
use Rattle.disp_model.specs.Routes.{IsForced}
use Rattle.disp_model.specs.Arcs.{Conflicts, release_of, min_of, GoesTo}
use Rattle.incremental_paths.specs.declared.arc.Arc.{Arc}
use Rattle.event_arcs.specs.declared.orders.KnownOrder.{KnownOrder}
use Rattle.event_arcs.specs.Listed.{IsArcOf}
use Rattle.event_arcs.specs.Chained.{LeadsAlong}

-- the number of what each allowed route goes on to from an operation
pub record IsNextNumber (node : Node) (a : Op) (next : Option ℕ) : Type 0 where
  pub found : (n : Op) → GoesTo node a n → next ≡ Some (number_of node.problem n)
  pub only : (number : ℕ) → next ≡ Some number → (n : Op) × GoesTo node a n
      × (number ≡ number_of node.problem n)

-- the two are not both forced and in conflict
abbrev pub IsNoOrder : Node → Op → Op → Type 0
IsNoOrder node a b = IsForced node a → IsForced node b → Conflicts node.problem a b → ⊥

-- two forced operations that conflict
pub record IsOrdered (node : Node) (a b : Op) (order : KnownOrder) : Type 0 where
  pub first_forced : IsForced node a
  pub second_forced : IsForced node b
  pub conflicts : Conflicts node.problem a b
  pub from_is : order.from ≡ number_of node.problem a
  pub to_is : order.to ≡ number_of node.problem b
  pub min_is : order.min ≡ min_of node.problem a
  pub release_is : order.release ≡ release_of node.problem a b
  pub next_is : IsNextNumber node a order.next

-- the arc from what follows the first, where that is known
abbrev pub release_arcs : Option ℕ → ℕ → ℕ → List Arc
release_arcs None to release = []
release_arcs (Some next) to release = record { from = next; to = to; length = release } ∷ []

abbrev pub arcs_of_order : KnownOrder → List Arc
arcs_of_order o = record { from = o.from; to = o.to; length = o.min + o.release }
    ∷ release_arcs o.next o.to o.release

-- the list leads as far as an order of two forced operations that conflict asks
pub record LeadsAsOrdered (node : Node) (arcs : List Arc) (a b : Op) : Type 0 where
  pub from_first : LeadsAlong node arcs a b (min_of node.problem a + release_of node.problem a b)
  pub from_next : (n : Op) → GoesTo node a n
      → LeadsAlong node arcs n b (release_of node.problem a b)

-- with the arcs of a decision
pub record AddsOrder (node : Node) (decision : Decision) (old new : List Arc) : Type 0 where
  pub kept : (arc : Arc) → Contains old arc → Contains new arc
  pub sound : Contains node.decisions decision → All (IsArcOf node) old → All (IsArcOf node) new
  pub leads : (a b : Op) → decision ≡ First a b → IsForced node a → IsForced node b
      → Conflicts node.problem a b → LeadsAsOrdered node new a b

-- with the arcs of some of the decisions
pub record AddsOrders (node : Node) (some : List Decision) (old new : List Arc) : Type 0 where
  pub kept : (arc : Arc) → Contains old arc → Contains new arc
  pub sound : ((decision : Decision) → Contains some decision → Contains node.decisions decision)
      → All (IsArcOf node) old → All (IsArcOf node) new
  pub leads : (a b : Op) → Contains some (First a b) → IsForced node a → IsForced node b
      → Conflicts node.problem a b → LeadsAsOrdered node new a b
