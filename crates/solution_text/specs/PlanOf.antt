-- The plan of a JSON value, and the objective value that it states. Keys that are not named here do
-- not matter.
use Rattle.std.specs.Prelude.{ℕ, List, length, Option, Some, codes}
use Rattle.serde_json.specs.Data.{Data}
use Rattle.disp_model.specs.declared.plan.Event.{Event}
use Rattle.disp_model.specs.declared.limits.TheConstants.{GREATEST_NUMBER, GREATEST_EVENT_TIME, GREATEST_COST}
use Rattle.json_claims.specs.Field.{◌>>=◌, number_at, optional_number, members_at, array_at, each}

unfoldable pub event_of : Data → Option Event
event_of d = do
  operation ← number_at (codes "operation") GREATEST_NUMBER d
  time ← number_at (codes "time") GREATEST_EVENT_TIME d
  train ← number_at (codes "train") GREATEST_NUMBER d
  Some (record { time = time; train = train; operation = operation })

-- the events in the order of the text
abbrev pub plan_of : Data → Option (List Event)
plan_of d = array_at (codes "events") d >>= each event_of

-- the objective value, if one is stated
abbrev pub stated_of : Data → Option (Option ℕ)
stated_of d = optional_number (codes "objective_value") GREATEST_COST d

-- how many events are given
abbrev pub events_given : Data → ℕ
events_given d = length (members_at (codes "events") d)
