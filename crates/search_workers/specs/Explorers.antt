-- What an explorer knows where it is.
use Rattle.std.specs.Prelude.{IfSome}
use Rattle.disp_model.specs.declared.problem.Problem.{Problem}
use Rattle.near_plans.specs.Plans.{IsPlanAt}
use Rattle.share_bound.specs.Known.{HoldFor}
use Rattle.tree_dives.specs.Guides.{GuidesIn}
use Rattle.search_workers.specs.declared.explorer.Explorer.{Explorer}

-- what is known of shares holds at the node of its graph, what its guides keep is of the problem,
-- and a plan that is to be published is valid
pub record IsExplorerOf (problem : Problem) (explorer : Explorer) : Type 0 where
  pub known : HoldFor explorer.graph explorer.known
  pub guide : GuidesIn problem explorer.scout.guide
  pub rehearser : GuidesIn problem explorer.rehearser.guide
  pub found : IfSome explorer.found (IsPlanAt explorer.graph)
