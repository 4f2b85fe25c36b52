-- What a dive from a node gives.
use Rattle.std.specs.Prelude.{◌≡◌, ℕ, ◌+◌, ◌≤◌, List, [], ◌∷◌, length, Option}
use Rattle.disp_model.specs.declared.plan.Event.{Event}
use Rattle.disp_model.specs.declared.decision.Choice.{Choice}
use Rattle.disp_model.specs.declared.tree.TreeNode.{TreeNode}
use Rattle.disp_model.specs.Node.{Node}
use Rattle.disp_model.specs.Nodes.{IsDead}
use Rattle.disp_model.specs.Earliest.{IsEarliest}
use Rattle.disp_model.specs.Valid.{IsValid}
use Rattle.disp_model.specs.Cost.{cost_of}
use Rattle.disp_model.specs.declared.settings.Rule.{Rule}
use Rattle.open_nodes.specs.States.{IsBoundBelow}
use Rattle.tree_growth.specs.Grown.{GrowsBelow, Helps, branches}
use Rattle.tree_dives.specs.Halves.{IsBelowNode, IsLeafAt}
use Rattle.tree_dives.specs.Stages.{IsClosedAt}
use Rattle.tree_dives.specs.declared.given.Dive.{Dive}
use Rattle.tree_dives.specs.declared.stage.End.{End}
use Rattle.tree_dives.specs.declared.stage.End.TheVariants.{Closed, Plan, Open}

-- the last node of a dive: a leaf of the tree stands at its place, and all branches of the tree are
-- on the way down to it
pub record IsLastOf (rule : Rule) (best : Option ℕ) (root here : Node) (nodes : List TreeNode)
    (bounds : List ℕ) : Type 0 where
  pub below : IsBelowNode root here
  pub deep : length here.decisions ≡ length root.decisions + branches nodes
  pub stands : IsLeafAt rule best root here nodes bounds

-- the plan is valid, and costs what is kept for the leaf of the last node, less than the best; it is
-- the earliest one of that node, which is not dead
pub record EndsInPlan (rule : Rule) (root : Node) (best : Option ℕ) (nodes : List TreeNode)
    (bounds : List ℕ) (plan : List Event) : Type 0 where
  pub valid : IsValid root.problem root.fixings plan
  pub better : IsBoundBelow (cost_of root.problem.components plan) best
  pub here : Node
  pub last : IsLastOf rule best root here nodes bounds
  pub costs : cost_of root.problem.components plan ≡ last.stands.bound
  pub alive : IsDead here → ⊥
  pub earliest : IsEarliest here plan

-- the whole allowance is branched, and a choice that helps is picked at the last node
pub record EndsOpen (rule : Rule) (root : Node) (best : Option ℕ) (allowance : ℕ)
    (nodes : List TreeNode) (bounds : List ℕ) : Type 0 where
  pub all : branches nodes ≡ allowance
  pub here : Node
  pub last : IsLastOf rule best root here nodes bounds
  pub choice : Choice
  pub helps : Helps rule best here choice

-- the last node needs no branch: the root itself, where nothing was branched
pub record EndsClosed (rule : Rule) (root : Node) (best : Option ℕ) (nodes : List TreeNode)
    (bounds : List ℕ) : Type 0 where
  pub here : Node
  pub last : IsLastOf rule best root here nodes bounds
  pub closed : IsClosedAt rule best here

abbrev pub IsEndOf : Rule → Node → Option ℕ → ℕ → List TreeNode → List ℕ → End → Type 0
IsEndOf rule root best allowance nodes bounds Closed = EndsClosed rule root best nodes bounds
IsEndOf rule root best allowance nodes bounds (Plan plan) =
    EndsInPlan rule root best nodes bounds plan
IsEndOf rule root best allowance nodes bounds Open =
    EndsOpen rule root best allowance nodes bounds

-- a subtree for the place of the node, with at most so many branches, and how it ended
pub record IsDive (rule : Rule) (root : Node) (best : Option ℕ) (allowance : ℕ) (dive : Dive)
    : Type 0 where
  pub grows : GrowsBelow rule best (root ∷ []) dive.nodes dive.bounds
  pub few : branches dive.nodes ≤ allowance
  pub ends : IsEndOf rule root best allowance dive.nodes dive.bounds dive.end
