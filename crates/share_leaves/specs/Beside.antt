-- Walks to components of trains that are not listed.
use Rattle.std.specs.Prelude.{ℕ, ◌<◌, ◌≤◌, List, All, length}
use Rattle.disp_model.specs.declared.tree.TrainWalks.{TrainWalks}
use Rattle.disp_model.specs.Node.{Node}
use Rattle.disp_model.specs.Shares.{AreOfOthers}
use Rattle.disp_model.specs.Trees.{WalksCost, FitsWalk}
use Rattle.cost_bound.specs.Bounds.{AreInOrder}
use Rattle.share_leaves.specs.declared.walks.Walks.{Walks}

-- to some of the first components, of trains that are not listed, and what these come to at least
pub record AreWalksBeside (node : Node) (trains : List TrainWalks) (count : ℕ) (found : Walks)
    : Type 0 where
  pub there : count ≤ length node.problem.components
  pub sum : ℕ
  pub costs : WalksCost node found.walks sum
  pub reached : found.cost ≤ sum
  pub order : AreInOrder found.walks
  pub below : All (λ w. w.component < count) found.walks
  pub others : AreOfOthers node.problem found.walks trains
  pub few : length found.walks ≤ count
  pub fits : All FitsWalk found.walks
