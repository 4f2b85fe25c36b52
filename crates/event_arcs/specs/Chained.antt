-- Arcs of the trains, added one after the other.
use Rattle.std.specs.Prelude.{◌≡◌, ◌⊎◌, ℕ, ◌<◌, ◌≤◌, List, All, Contains, Option, Some, None, IfSome, length, slice_get}
use Rattle.disp_model.specs.declared.train.Op.{Op}
use Rattle.disp_model.specs.Numbers.{number_of}
use Rattle.disp_model.specs.Valid.{train_at}
use Rattle.disp_model.specs.Node.{Node}
use Rattle.disp_model.specs.Routes.{IsForced}
use Rattle.disp_model.specs.Arcs.{IsTrainArc}
use Rattle.train_orders.specs.Orders.{IsOrder}
use Rattle.route_sets.specs.declared.routes.Routes.{Routes}
use Rattle.route_sets.specs.Sets.{op_of_train, AreRoutesOf}
use Rattle.incremental_paths.specs.declared.arc.Arc.{Arc}
use Rattle.event_arcs.specs.Listed.{IsArcOf, LeadsOver}

-- arcs of the node are added
pub record Extends (node : Node) (old new : List Arc) : Type 0 where
  pub kept : (arc : Arc) → Contains old arc → Contains new arc
  pub sound : All (IsArcOf node) old → All (IsArcOf node) new

-- the list leads from one operation to the other, over at least their arc
abbrev pub LeadsAlong : Node → List Arc → Op → Op → ℕ → Type 0
LeadsAlong node arcs u v arc_length = LeadsOver arcs (number_of node.problem u)
    (number_of node.problem v) arc_length

-- the list leads from one operation to the other once it has grown
pub record LeadsOnceGrown (node : Node) (u v : Op) (sum : ℕ) (old new : List Arc) : Type 0 where
  pub extends : Extends node old new
  pub leads : LeadsAlong node new u v sum

-- the list leads as the arcs of a train do at a node with these routes
pub record LeadsByRoutes (node : Node) (t : ℕ) (routes : Routes) (given : List Arc) : Type 0 where
  pub before : Node
  pub are_routes : AreRoutesOf before t routes
  pub leads : (o q sum : ℕ) → IsForced before (op_of_train t o) → IsForced before (op_of_train t q)
      → IsTrainArc before (op_of_train t o) (op_of_train t q) sum
      → LeadsAlong node given (op_of_train t o) (op_of_train t q) sum

-- the list leads so by the routes, where there are any
abbrev pub IsGivenBy : Node → ℕ → Option Routes → List Arc → Type 0
IsGivenBy node t None given = Unit {0}
IsGivenBy node t (Some routes) given = LeadsByRoutes node t routes given

-- a train's routes, an order of its operations, and its first number
pub record IsOrderGiven (node : Node) (t : ℕ) (routes : Routes) (order : List ℕ) (first : ℕ)
    : Type 0 where
  pub there : t < length node.problem.trains
  pub are_routes : AreRoutesOf node t routes
  pub is_order : IsOrder (train_at node.problem t) order
  pub first_is : first ≡ number_of node.problem (op_of_train t 0)

-- each forced operation of the order from a place on is the last one, or the list leads from it
-- there
pub record EndsAt (node : Node) (t : ℕ) (arcs : List Arc) (last : Option ℕ) (o : ℕ) : Type 0 where
  pub end : ℕ
  pub is_last : last ≡ Some end
  pub leads : (o ≡ end) ⊎ ((sum : ℕ) × IsTrainArc node (op_of_train t o) (op_of_train t end) sum
      × LeadsAlong node arcs (op_of_train t o) (op_of_train t end) sum)

-- a forced operation of the order from a place on
pub record StandsFrom (node : Node) (t : ℕ) (order : List ℕ) (place o : ℕ) : Type 0 where
  pub at : ℕ
  pub from : place ≤ at
  pub here : slice_get order at ≡ Some o
  pub forced : IsForced node (op_of_train t o)

-- the list leads between the forced operations of the order from a place on
pub record IsChained (node : Node) (t : ℕ) (order : List ℕ) (place : ℕ) (base arcs : List Arc)
    (last : Option ℕ) : Type 0 where
  pub extends : Extends node base arcs
  pub last_stands : IfSome last (StandsFrom node t order place)
  pub to_last : (o : ℕ) → StandsFrom node t order place o → EndsAt node t arcs last o
  pub between : (o q sum : ℕ) → StandsFrom node t order place o → StandsFrom node t order place q
      → IsTrainArc node (op_of_train t o) (op_of_train t q) sum
      → LeadsAlong node arcs (op_of_train t o) (op_of_train t q) sum

-- with the arcs of a train
pub record AddsChain (node : Node) (t : ℕ) (old new : List Arc) : Type 0 where
  pub extends : Extends node old new
  pub leads : (u v : Op) (sum : ℕ) → u.train ≡ t → IsForced node u → IsForced node v
      → IsTrainArc node u v sum → LeadsAlong node new u v sum

-- with the arcs of the first so many trains
pub record AddsChains (node : Node) (count : ℕ) (old new : List Arc) : Type 0 where
  pub extends : Extends node old new
  pub leads : (u v : Op) (sum : ℕ) → u.train < count → IsForced node u → IsForced node v
      → IsTrainArc node u v sum → LeadsAlong node new u v sum
