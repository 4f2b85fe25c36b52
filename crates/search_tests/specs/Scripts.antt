-- What is known of a core between the events of a script.
use Rattle.std.specs.Prelude.{◌≡◌, ℕ, ◌<◌, ◌≤◌, List, [], ◌∷◌, length}
use Rattle.disp_model.specs.declared.fixing.Fixing.{Fixing}
use Rattle.disp_model.specs.declared.problem.Problem.{Problem}
use Rattle.disp_model.specs.declared.settings.Rule.TheVariants.{Fixed}
use Rattle.disp_model.specs.declared.tree.TreeNode.{TreeNode}
use Rattle.disp_model.specs.Node.{node_at}
use Rattle.open_nodes.specs.declared.work.Work.{Work}
use Rattle.tree_growth.specs.Grown.{GrowsBelow, branches}
use Rattle.dispatch_core.specs.States.{Core}

-- its rule is the fixed one, and it has a feed
pub record IsRun (core : Core) : Type 0 where
  pub rule : core.settings.rule ≡ Fixed
  pub feeds : 0 < length core.ended

-- a subtree grows at a work's node under these fixings, by no more branches than were allowed
pub record IsGrownAt (problem : Problem) (fixings : List Fixing) (work : Work)
    (subtree : List TreeNode) (bounds : List ℕ) : Type 0 where
  pub grows : GrowsBelow Fixed work.best (node_at problem fixings work.decisions ∷ []) subtree
      bounds
  pub few : branches subtree ≤ work.allowance
