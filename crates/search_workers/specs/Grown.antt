-- What a searcher makes of a work.
use Rattle.std.specs.Prelude.{◌≡◌, ◌⊎◌, ℕ, ◌≤◌, List, [], ◌∷◌, Option, Some, None}
use Rattle.disp_model.specs.declared.plan.Event.{Event}
use Rattle.disp_model.specs.declared.settings.Rule.{Rule}
use Rattle.disp_model.specs.declared.tree.TreeNode.{TreeNode}
use Rattle.disp_model.specs.Node.{Node}
use Rattle.near_plans.specs.Plans.{IsPlanAt}
use Rattle.tree_dives.specs.Dives.{EndsInPlan, EndsOpen, EndsClosed}
use Rattle.tree_growth.specs.Grown.{GrowsBelow, branches}
use Rattle.dispatch_core.specs.States.{IsExamined}
use Rattle.search_workers.specs.declared.growth.Growth.{Growth}
use Rattle.search_workers.specs.declared.growth.Growth.TheVariants as growth

-- all is branched that was allowed, and the last node is to be branched; it is not the leaf itself
-- with the bound that it had
pub record IsLeftOpen (rule : Rule) (node : Node) (best : Option ℕ) (allowance bound : ℕ)
    (nodes : List TreeNode) (bounds : List ℕ) : Type 0 where
  pub ends : EndsOpen rule node best allowance nodes bounds
  pub not_as_before : allowance ≡ 0 → bounds ≡ bound ∷ [] → ⊥

-- with a plan the last node is where it was found: it is valid and starts nothing past the
-- horizon, and costs what is kept for the leaf there, less than the best; without one the last node
-- needs no branch, or is left open
abbrev pub GrowthEnds : Rule → Node → Option ℕ → ℕ → ℕ → List TreeNode → List ℕ
    → Option (List Event) → Type 0
GrowthEnds rule node best allowance bound nodes bounds (Some plan) =
    IsPlanAt node plan × EndsInPlan rule node best nodes bounds plan
GrowthEnds rule node best allowance bound nodes bounds None =
    EndsClosed rule node best nodes bounds
    ⊎ IsLeftOpen rule node best allowance bound nodes bounds

-- a subtree for the node by no more branches than were allowed, as it ended; or no branch was
-- allowed, the node is examined, and this is its bound
abbrev pub IsGrownOf : Rule → Node → Option ℕ → ℕ → ℕ → Growth → Type 0
IsGrownOf rule node best allowance bound (growth.Subtree nodes bounds plan) =
    GrowsBelow rule best (node ∷ []) nodes bounds × (branches nodes ≤ allowance)
    × GrowthEnds rule node best allowance bound nodes bounds plan
IsGrownOf rule node best allowance bound growth.Examined =
    (allowance ≡ 0) × IsExamined rule node bound
