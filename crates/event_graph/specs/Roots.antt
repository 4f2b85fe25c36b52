-- The paths of a node where nothing is decided.
use Rattle.disp_model.specs.Node.{Node}
use Rattle.disp_model.specs.Walks.{HasCycle}
use Rattle.timed_paths.specs.Timed.{Timed}
use Rattle.event_arcs.specs.Listed.{AreArcsOf, AreLowersOf}

-- the paths stand for the node, which has no cycle
pub record ArePathsOf (node : Node) (paths : Timed) : Type 0 where
  pub arcs_are : AreArcsOf node paths.arcs
  pub lowers_are : AreLowersOf node paths.lowers
  pub no_cycle : HasCycle node → ⊥
