-- Plans and costs that a solution may give.
use Rattle.std.specs.Prelude.{◌≤◌, ℕ, List, length, All}
use Rattle.disp_model.specs.declared.plan.Event.{Event}
use Rattle.disp_model.specs.declared.limits.TheConstants.{GREATEST_NUMBER, GREATEST_EVENT_TIME, GREATEST_COST, MOST_EVENTS}

-- an event's numbers are within their limits
pub record IsEventWithin (e : Event) : Type 0 where
  pub operation : e.operation ≤ GREATEST_NUMBER
  pub time : e.time ≤ GREATEST_EVENT_TIME
  pub train : e.train ≤ GREATEST_NUMBER

-- events are few enough, and their numbers and the cost are within their limits
pub record IsWithinLimits (plan : List Event) (cost : ℕ) : Type 0 where
  pub few_events : length plan ≤ MOST_EVENTS
  pub events_fit : All IsEventWithin plan
  pub cost_fits : cost ≤ GREATEST_COST
