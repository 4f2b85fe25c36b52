-- What the format asks of a JSON value: a list of claims in document order, each on what stands at
-- one place.
use Rattle.std.specs.Prelude.{ℕ, List, [], ◌∷◌, ◌++◌, Some, codes}
use Rattle.serde_json.specs.Data.{Data}
use Rattle.disp_model.specs.declared.limits.TheConstants.{GREATEST_NUMBER, GREATEST_EVENT_TIME, GREATEST_COST}
use Rattle.json_claims.specs.declared.rule.Want.TheVariants as want
use Rattle.json_claims.specs.Field.{field, members_at}
use Rattle.json_claims.specs.Claims.{Claim, needed, optional, claims_from}
use Rattle.solution_text.specs.declared.place.SolutionPlace.{SolutionPlace}
use Rattle.solution_text.specs.declared.place.SolutionPlace.TheVariants as place
use Rattle.solution_text.specs.declared.place.EventKey.TheVariants as key

-- an event: its three numbers are needed
unfoldable pub event_claims : ℕ → Data → List (Claim SolutionPlace)
event_claims k d =
    needed (place.Event k) want.Object (Some d)
    ∷ needed (place.EventKey k key.Operation) (want.Number GREATEST_NUMBER)
    (field (codes "operation") d)
    ∷ needed (place.EventKey k key.Time) (want.Number GREATEST_EVENT_TIME) (field (codes "time") d)
    ∷ needed (place.EventKey k key.Train) (want.Number GREATEST_NUMBER) (field (codes "train") d)
    ∷ []

-- a solution: events are needed, and an objective value may be stated (format)
abbrev pub solution_claims : Data → List (Claim SolutionPlace)
solution_claims d =
    needed place.Root want.Object (Some d)
    ∷ needed place.Events want.List (field (codes "events") d)
    ∷ (claims_from event_claims 0 (members_at (codes "events") d)
    ++ (optional place.ObjectiveValue (want.Number GREATEST_COST)
    (field (codes "objective_value") d)
    ∷ []))
