-- Where a graph is after it was moved, and what plans are found on the way.
use Rattle.std.specs.Prelude.{◌≡◌, ◌≤◌, List, All}
use Rattle.disp_model.specs.declared.plan.Event.{Event}
use Rattle.disp_model.specs.WellFormed.{horizon}
use Rattle.disp_model.specs.Node.{Node}
use Rattle.disp_model.specs.Valid.{IsValid}
use Rattle.disp_model.specs.Earliest.{IsEarliest, PicksNone}

-- a node of the same problem under the same fixings
pub record IsBeside (before after : Node) : Type 0 where
  pub problem : after.problem ≡ before.problem
  pub fixings : after.fixings ≡ before.fixings

-- the plan is the earliest one of a node beside, at which nothing is picked
pub record IsFoundBeside (node : Node) (plan : List Event) : Type 0 where
  pub here : Node
  pub beside : IsBeside node here
  pub picked : PicksNone here
  pub earliest : IsEarliest here plan

-- the plan is valid at the node, and starts nothing past the horizon
pub record IsPlanAt (node : Node) (plan : List Event) : Type 0 where
  pub valid : IsValid node.problem node.fixings plan
  pub within : All (λ e. e.time ≤ horizon node.problem.trains) plan
