-- What a forced component adds to the cost of a node, and where.
use Rattle.std.specs.Prelude.{◌≡◌, ℕ, ◌≤◌}
use Rattle.disp_model.specs.declared.train.Component.{Component}
use Rattle.disp_model.specs.WellFormed.{horizon, most_of}
use Rattle.disp_model.specs.Numbers.{number_of}
use Rattle.disp_model.specs.Cost.{cost_at}
use Rattle.disp_model.specs.Node.{Node}
use Rattle.disp_model.specs.Routes.{IsForced}
use Rattle.disp_model.specs.Walks.{IsLongest}
use Rattle.disp_model.specs.Nodes.{component_op}
use Rattle.cost_bound.specs.declared.arrival.Arrival.{Arrival}

-- the number of a component's operation, which is forced, and what the component costs at its
-- longest walk
pub record IsArrival (node : Node) (c : Component) (arrival : Arrival) : Type 0 where
  pub forced : IsForced node (component_op c)
  pub number_is : arrival.number ≡ number_of node.problem (component_op c)
  pub total : ℕ
  pub longest : IsLongest node (component_op c) total
  pub cost_is : arrival.cost ≡ cost_at c total
  pub most : arrival.cost ≤ most_of (horizon node.problem.trains) c
