-- Routes for the trains of a problem, and paths that show a node of the search.
use Rattle.std.specs.Prelude.{◌≡◌, ℕ, ◌<◌, List, [], ◌∷◌, length, All, slice_index_or}
use Rattle.disp_model.specs.declared.train.Op.{Op}
use Rattle.disp_model.specs.declared.train.Operation.{Operation}
use Rattle.disp_model.specs.Train.{IsRoute}
use Rattle.disp_model.specs.Numbers.{number_of}
use Rattle.disp_model.specs.Node.{Node}
use Rattle.disp_model.specs.Routes.{HasOneRoute, IsForced}
use Rattle.disp_model.specs.Arcs.{HasArc}
use Rattle.disp_model.specs.Walks as of_node
use Rattle.incremental_paths.specs.declared.arc.Arc.{Arc}
use Rattle.incremental_paths.specs.Walks.{IsLongestLength, FollowsArcs, last_node_from}
use Rattle.incremental_paths.specs.Network.{Network}

-- a route for each train
pub record FitTrains (trains : List (List Operation)) (routes : List (List ℕ)) : Type 0 where
  pub count : length routes ≡ length trains
  pub each : (t : ℕ) → t < length trains
      → IsRoute (slice_index_or trains t []) (slice_index_or routes t [])

-- each train has its one of these routes, and no other
abbrev pub AreOnlyRoutes : Node → List (List ℕ) → Type 0
AreOnlyRoutes node routes =
    (t : ℕ) → t < length node.problem.trains → HasOneRoute node t (slice_index_or routes t [])

-- one arc or more leads from one node of the network to the other
pub record ArcsLead (arcs : List Arc) (from to : ℕ) : Type 0 where
  pub next : ℕ
  pub rest : List ℕ
  pub follows : FollowsArcs arcs from (next ∷ rest)
  pub ends : last_node_from next rest ≡ to

-- an arc of the network joins the numbers of two operations between which an arc of the node leads
pub record StandsFor (node : Node) (arc : Arc) : Type 0 where
  pub u : Op
  pub v : Op
  pub there : HasArc node u v
  pub from_is : arc.from ≡ number_of node.problem u
  pub to_is : arc.to ≡ number_of node.problem v

-- by the operations' numbers, the network has the lengths of the node's walks; each of its arcs
-- stands for one of the node, and where an arc of the node leads, a way along its arcs does
pub record ShowsNode (node : Node) (network : Network) : Type 0 where
  pub longest : (o : Op) (total : ℕ) → IsForced node o
      → IsLongestLength network.lowers network.arcs (number_of node.problem o) total
      → of_node.IsLongest node o total
  pub sound : All (StandsFor node) network.arcs
  pub complete : (u v : Op) → HasArc node u v
      → ArcsLead network.arcs (number_of node.problem u) (number_of node.problem v)
