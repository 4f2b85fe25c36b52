-- What stands at the places of a value that breaks no rule on them.
use Rattle.std.proofs.Common.{◌≡◌, ℕ, List, [], ◌∷◌, Option, Some, refl}
use Rattle.std.specs.Prelude.{option_and_then, codes}
use Rattle.std.specs.List.{AllByRecursion}
use Rattle.serde_json.specs.Data.{Data}
use Rattle.disp_model.specs.declared.plan.Event.{Event}
use Rattle.disp_model.specs.declared.limits.TheConstants.{GREATEST_NUMBER, GREATEST_EVENT_TIME, GREATEST_COST}
use Rattle.json_claims.specs.Field.{◌>>=◌, field, whole_of, members_at, each}
use Rattle.json_claims.specs.Claims.{claims_from, ArePlain}
use Rattle.json_claims.proofs.Kept.{plain_head, plain_both, number_there, optional_there, needed_list_there, each_read}
use Rattle.solution_text.specs.declared.place.SolutionPlace.TheVariants as place
use Rattle.solution_text.specs.declared.place.EventKey.TheVariants as key
use Rattle.solution_text.specs.Claims.{event_claims}
use Rattle.solution_text.specs.PlanOf.{event_of, plan_of, stated_of}
use Rattle.solution_text.specs.Reading.{IsPlainSolution}

-- ---- events

event_made : (d : Data) (operation time train : ℕ)
    → option_and_then (whole_of GREATEST_NUMBER) (field (codes "operation") d) ≡ Some operation
    → option_and_then (whole_of GREATEST_EVENT_TIME) (field (codes "time") d) ≡ Some time
    → option_and_then (whole_of GREATEST_NUMBER) (field (codes "train") d) ≡ Some train
    → event_of d ≡ Some (record { time = time; train = train; operation = operation })
unfolding event_of
event_made d operation time train operation-is time-is train-is = rw (operation-is, time-is, train-is) refl

event_there : (k : ℕ) (d : Data) → ArePlain (event_claims k d) → (e : Event) × (event_of d ≡ Some e)
unfolding event_claims
event_there k d kept =
    let k1 = plain_head _ _ kept in
    let k2 = plain_head _ _ k1.1 in
    let k3 = plain_head _ _ k2.1 in
    let k4 = plain_head _ _ k3.1 in
    let operation = number_there (place.EventKey k key.Operation) GREATEST_NUMBER (field (codes "operation") d) k2.0 in
    let time = number_there (place.EventKey k key.Time) GREATEST_EVENT_TIME (field (codes "time") d) k3.0 in
    let train = number_there (place.EventKey k key.Train) GREATEST_NUMBER (field (codes "train") d) k4.0 in
    (record { time = time.0; train = train.0; operation = operation.0 }, event_made d operation.0 time.0 train.0 operation.1 time.1 train.1)

all_units : (ds : List Data) → AllByRecursion (λ _. Unit {0}) ds
all_units [] = tt
all_units (d ∷ ds) = (tt, all_units ds)

events_there : (ds : List Data) → ArePlain (claims_from event_claims 0 ds) → (es : List Event) × (each event_of ds ≡ Some es)
events_there ds kept =
    let read = each_read ArePlain event_claims event_of (λ _. Unit {0}) (λ _. Unit {0}) plain_both (λ k d _ here. let e = event_there k d here in (e.0, e.1, tt)) 0 ds (all_units ds) kept in
    (read.0, read.1)

bind_at : {A B : Type 0} (o : Option A) (f : A → Option B) (x : A) (y : B) → o ≡ Some x → f x ≡ Some y → (o >>= f) ≡ Some y
bind_at o f x y e r = rw e r

-- ---- the solution

-- a value that keeps the rules on single places has a plan
pub plan_there : (d : Data) → IsPlainSolution d → (plan : List Event) × (plan_of d ≡ Some plan)
plan_there d plain =
    let one = plain_head _ _ plain in
    let two = plain_head _ _ one.1 in
    let three = plain_both (claims_from event_claims 0 (members_at (codes "events") d)) _ two.1 in
    let list = needed_list_there place.Events (field (codes "events") d) two.0 in
    let events = events_there (members_at (codes "events") d) three.0 in
    (events.0, bind_at _ (each event_of) (members_at (codes "events") d) events.0 list events.1)

-- and it states a value within the limit, or none
pub stated_there : (d : Data) → IsPlainSolution d → (stated : Option ℕ) × (stated_of d ≡ Some stated)
stated_there d plain =
    let one = plain_head _ _ plain in
    let two = plain_head _ _ one.1 in
    let three = plain_both (claims_from event_claims 0 (members_at (codes "events") d)) _ two.1 in
    let four = plain_head _ _ three.1 in
    optional_there place.ObjectiveValue GREATEST_COST (field (codes "objective_value") d) four.0
