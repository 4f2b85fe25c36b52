-- Lists of arcs over numbered operations that stand for the arcs of a node.
use Rattle.std.specs.Prelude.{◌≡◌, ◌⊎◌, ℕ, ◌≤◌, List, ◌∷◌, All, Any, length, slice_index}
use Rattle.disp_model.specs.declared.train.Op.{Op}
use Rattle.disp_model.specs.WellFormed.{operation_count}
use Rattle.disp_model.specs.Numbers.{number_of}
use Rattle.disp_model.specs.Node.{Node}
use Rattle.disp_model.specs.Routes.{IsForced}
use Rattle.disp_model.specs.Arcs.{IsTrainArc, IsArc}
use Rattle.disp_model.specs.Walks.{lower_of}
use Rattle.event_windows.specs.Operations.{HasOperation}
use Rattle.incremental_paths.specs.declared.arc.Arc.{Arc}
use Rattle.incremental_paths.specs.Walks.{FollowsArcs, last_node_from, steps_length}

-- a listed arc joins the numbers of two operations between which there is an arc, and is no longer
-- than it
pub record IsArcOf (node : Node) (arc : Arc) : Type 0 where
  pub u : Op
  pub v : Op
  pub arc_length : ℕ
  pub joins : IsArc node u v arc_length
  pub from_is : arc.from ≡ number_of node.problem u
  pub to_is : arc.to ≡ number_of node.problem v
  pub no_longer : arc.length ≤ arc_length

-- one listed arc or more lead from one number to the other, and are together at least so long
pub record LeadsOver (arcs : List Arc) (from to least : ℕ) : Type 0 where
  pub next : ℕ
  pub rest : List ℕ
  pub follows : FollowsArcs arcs from (next ∷ rest)
  pub ends : last_node_from next rest ≡ to
  pub long : least ≤ steps_length arcs from (next ∷ rest)

-- a list that stands for the arcs of a node: each listed arc is one of them or shorter, and for
-- each of them there is a way along the list that is no shorter
pub record AreArcsOf (node : Node) (arcs : List Arc) : Type 0 where
  pub sound : All (IsArcOf node) arcs
  pub complete : (u v : Op) (arc_length : ℕ) → IsArc node u v arc_length
      → LeadsOver arcs (number_of node.problem u) (number_of node.problem v) arc_length

-- from when each operation may start, in the order of their numbers
pub record AreLowersOf (node : Node) (lowers : List ℕ) : Type 0 where
  pub long : length lowers ≡ operation_count node.problem.trains
  pub at : (o : Op) → HasOperation node.problem o
      → slice_index lowers (number_of node.problem o) ≡ lower_of node.problem node.fixings o

-- some listed arc begins at the number
abbrev pub IsArcLeft : List Arc → ℕ → Type 0
IsArcLeft arcs number = Any (λ arc. arc.from ≡ number) arcs

-- where a train's arc joins two operations at which listed arcs begin, there is a way along the
-- list
pub record SpansTrains (node : Node) (arcs : List Arc) : Type 0 where
  pub way : (u v : Op) (sum : ℕ) → IsForced node u → IsForced node v → IsTrainArc node u v sum
      → IsArcLeft arcs (number_of node.problem u) → IsArcLeft arcs (number_of node.problem v)
      → LeadsOver arcs (number_of node.problem u) (number_of node.problem v) 0

-- an operation stands between two others of its train: what the list leads on from before it stands
-- at the first or before it, and what it leads on from behind it at the second or behind it
pub record GoesBetween (node : Node) (arcs : List Arc) (before op behind : Op) : Type 0 where
  pub before_forced : IsForced node before
  pub op_forced : IsForced node op
  pub behind_forced : IsForced node behind
  pub left : IsArcLeft arcs (number_of node.problem before)
  pub from : (u : Op) (sum : ℕ) → IsForced node u → IsArcLeft arcs (number_of node.problem u)
      → IsTrainArc node u op sum → (u ≡ before) ⊎ ((n : ℕ) × IsTrainArc node u before n)
  pub to : (v : Op) (sum : ℕ) → IsForced node v → IsArcLeft arcs (number_of node.problem v)
      → IsTrainArc node op v sum → (v ≡ behind)
      ⊎ (IsArcLeft arcs (number_of node.problem behind) × ((n : ℕ) × IsTrainArc node behind v n))

-- the arc joins the numbers of the two operations
pub record JoinsOps (node : Node) (arc : Arc) (u v : Op) : Type 0 where
  pub from_is : arc.from ≡ number_of node.problem u
  pub to_is : arc.to ≡ number_of node.problem v
