-- Walks that show what components add to the cost of a node.
use Rattle.std.specs.Prelude.{◌≡◌, ℕ, ◌<◌, ◌≤◌, List, All, Some, length, take, slice_get, sum_by}
use Rattle.disp_model.specs.declared.train.Op.{Op}
use Rattle.disp_model.specs.declared.tree.ComponentWalk.{ComponentWalk}
use Rattle.disp_model.specs.WellFormed.{horizon, most_of}
use Rattle.disp_model.specs.Node.{Node}
use Rattle.disp_model.specs.Walks.{IsWalk, EndsIn, IsLongest}
use Rattle.disp_model.specs.Nodes.{ForcedAddUp}
use Rattle.disp_model.specs.Trees.{WalkCosts, WalksCost}
use Rattle.cost_bound.specs.declared.shown.Bound.{Bound}
use Rattle.cost_bound.specs.Shortened.{NamesEnds}

-- a walk to an operation that is as long as its longest
pub record IsLongWalk (node : Node) (o : Op) (walk : List Op) : Type 0 where
  pub ends : EndsIn walk o
  pub total : ℕ
  pub is_walk : IsWalk node walk total
  pub longest : IsLongest node o total

-- a walk for a component that costs something at its length, and names only where it enters and
-- leaves trains
pub record AddsCost (node : Node) (w : ComponentWalk) : Type 0 where
  pub cost : ℕ
  pub costs : WalkCosts node w cost
  pub some : 0 < cost
  pub short : NamesEnds w.walk

-- their components are in the order of the problem, none of them twice
abbrev pub AreInOrder : List ComponentWalk → Type 0
AreInOrder walks = (i j : ℕ) (v w : ComponentWalk) → i < j → slice_get walks i ≡ Some v
    → slice_get walks j ≡ Some w → v.component < w.component

-- what the first so many components add up to, with the walks that show it
pub record IsBoundTo (node : Node) (count : ℕ) (bound : Bound) : Type 0 where
  pub there : count ≤ length node.problem.components
  pub adds : ForcedAddUp node (take count node.problem.components) bound.cost
  pub most : bound.cost ≤ sum_by (most_of (horizon node.problem.trains))
      (take count node.problem.components)
  pub costs : WalksCost node bound.walks bound.cost
  pub order : AreInOrder bound.walks
  pub below : All (λ w. w.component < count) bound.walks
  pub each : All (AddsCost node) bound.walks
  pub long : length bound.walks ≤ count
