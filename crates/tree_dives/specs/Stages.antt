-- What comes next at a node.
use Rattle.std.specs.Prelude.{ℕ, List, ◌⊎◌, Option}
use Rattle.disp_model.specs.declared.plan.Event.{Event}
use Rattle.disp_model.specs.Node.{Node}
use Rattle.disp_model.specs.Nodes.{IsDead}
use Rattle.disp_model.specs.Shares.{IsBound}
use Rattle.disp_model.specs.Earliest.{IsEarliest, PicksNone}
use Rattle.disp_model.specs.declared.settings.Rule.{Rule}
use Rattle.open_nodes.specs.States.{IsBoundBelow}
use Rattle.tree_growth.specs.Grown.{Helps}
use Rattle.tree_dives.specs.declared.stage.End.{End}
use Rattle.tree_dives.specs.declared.stage.End.TheVariants as ends
use Rattle.tree_dives.specs.declared.stage.Stage.{Stage}
use Rattle.tree_dives.specs.declared.stage.Stage.TheVariants as stages

-- the node needs no branch: it is dead, or its bound is not below the best
abbrev pub IsClosedAt : Rule → Option ℕ → Node → Type 0
IsClosedAt rule best node = IsDead node ⊎
    ((bound : ℕ) × IsBound node rule bound × (IsBoundBelow bound best → ⊥))

-- the node is not dead, its bound is below the best, nothing is picked there, and this is its
-- earliest plan
pub record HasPlan (rule : Rule) (best : Option ℕ) (node : Node) (plan : List Event) : Type 0 where
  pub alive : IsDead node → ⊥
  pub bound : ℕ
  pub bound_is : IsBound node rule bound
  pub below : IsBoundBelow bound best
  pub picked : PicksNone node
  pub earliest : IsEarliest node plan

abbrev pub EndsThere : Rule → Option ℕ → Node → End → Type 0
EndsThere rule best node ends.Closed = IsClosedAt rule best node
EndsThere rule best node (ends.Plan plan) = HasPlan rule best node plan
EndsThere rule best node ends.Open = ⊥

abbrev pub IsStageAt : Rule → Option ℕ → Node → Stage → Type 0
IsStageAt rule best node (stages.Branch choice) = Helps rule best node choice
IsStageAt rule best node (stages.End end) = EndsThere rule best node end
