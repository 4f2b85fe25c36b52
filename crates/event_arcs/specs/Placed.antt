-- The routes of all trains, with the numbers of their first operations.
use Rattle.std.specs.Prelude.{◌≡◌, ◌<◌, ◌≤◌, ℕ, List, length, slice_get, Some}
use Rattle.disp_model.specs.Numbers.{number_of}
use Rattle.disp_model.specs.Node.{Node}
use Rattle.disp_model.specs.Routes.{HasRoute}
use Rattle.route_sets.specs.Sets.{op_of_train, AreRoutesOf}
use Rattle.event_arcs.specs.declared.placed.Placed.{Placed}
use Rattle.event_arcs.specs.declared.placed.Placing.{Placing}
use Rattle.event_arcs.specs.declared.placed.Placing.TheVariants.{Each, NoRoute}

-- the routes of a train and its first number, where it has an allowed route
pub record IsPlaced (node : Node) (t : ℕ) (placed : Placed) : Type 0 where
  pub first_is : placed.first ≡ number_of node.problem (op_of_train t 0)
  pub are_routes : AreRoutesOf node t placed.routes
  pub has_route : HasRoute node t

-- those of the first so many trains
pub record ArePlacedTo (node : Node) (count : ℕ) (each : List Placed) : Type 0 where
  pub long : length each ≡ count
  pub there : count ≤ length node.problem.trains
  pub at : (t : ℕ) (placed : Placed) → slice_get each t ≡ Some placed → IsPlaced node t placed

-- those of all trains
abbrev pub ArePlaced : Node → List Placed → Type 0
ArePlaced node each = ArePlacedTo node (length node.problem.trains) each

-- the first train without an allowed route
pub record IsFirstWithout (node : Node) (t : ℕ) : Type 0 where
  pub there : t < length node.problem.trains
  pub none : HasRoute node t → ⊥
  pub before : (u : ℕ) → u < t → HasRoute node u

abbrev pub IsPlacing : Node → Placing → Type 0
IsPlacing node (Each each) = ArePlaced node each.items
IsPlacing node (NoRoute t) = IsFirstWithout node t
