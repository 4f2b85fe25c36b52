-- The value of a written solution breaks no rule, and gives the plan and the cost back.
use Rattle.std.proofs.Common.{◌≡◌, ℕ, suc, ◌+◌, ◌≤◌, List, [], ◌∷◌, ◌++◌, length, Option, Some, None, Bool, true, false, cond, option_map, refl, ap, arith, le-ltb}
use Rattle.std.specs.Prelude.{find}
use Rattle.std.specs.List.{AllByRecursion}
use Rattle.std.proofs.lemmas.List.Elements.{recursion_from_All}
use Rattle.disp_model.specs.declared.plan.Event.{Event}
use Rattle.disp_model.specs.declared.limits.TheConstants.{GREATEST_NUMBER, GREATEST_EVENT_TIME, GREATEST_COST}
use Rattle.json_claims.specs.declared.rule.Rule.{Rule}
use Rattle.json_claims.specs.declared.rule.Rule.TheVariants as rule
use Rattle.json_claims.specs.Field.{values_of, each}
use Rattle.json_claims.specs.Claims.{Claim, breaks, first_broken, claims_from}
use Rattle.json_claims.proofs.Kept.{fits}
use Rattle.json_claims.proofs.Steps.{each_cons}
use Rattle.solution_text.specs.declared.place.SolutionPlace.{SolutionPlace}
use Rattle.solution_text.specs.Claims.{event_claims}
use Rattle.solution_text.specs.PlanOf.{event_of, stated_of}
use Rattle.solution_text.specs.Reading.{IsPlainSolution, IsReadAsSolution}
use Rattle.solution_text.specs.Texts.{solution_text}
use Rattle.solution_text.specs.Limits.{IsEventWithin, IsWithinLimits}
use Rattle.solution_text.proofs.Written.{event_data, events_data, solution_data, text_is_json}

-- ---- the rules

broken_by : (broken : Bool) (c : Claim SolutionPlace) (rest more : Option (Claim SolutionPlace)) → (option_map (λ (x : Claim SolutionPlace). x.place) rest ≡ None → option_map (λ (x : Claim SolutionPlace). x.place) more ≡ None)
    → option_map (λ (x : Claim SolutionPlace). x.place) (cond broken (Some c) rest) ≡ None → option_map (λ (x : Claim SolutionPlace). x.place) (cond broken (Some c) more) ≡ None
broken_by true c rest more on e = absurd cc
broken_by false c rest more on e = on e

none_both : (rule : Rule) (a b : List (Claim SolutionPlace)) → first_broken rule a ≡ None → first_broken rule b ≡ None → first_broken rule (a ++ b) ≡ None
none_both rule [] b e f = f
none_both rule (c ∷ a) b e f = broken_by (breaks rule c) c (find (breaks rule) a) (find (breaks rule) (a ++ b)) (λ g. none_both rule a b g f) e

event_shape : (k : ℕ) (e : Event) → first_broken rule.Shape (event_claims k (event_data e)) ≡ None
unfolding event_claims breaks
event_shape k e = refl

event_whole : (k : ℕ) (e : Event) → first_broken rule.Whole (event_claims k (event_data e)) ≡ None
unfolding event_claims breaks
event_whole k e = refl

event_limit : (k : ℕ) (e : Event) → IsEventWithin e → first_broken rule.Limit (event_claims k (event_data e)) ≡ None
unfolding event_claims breaks
event_limit k e within =
    rw (le-ltb GREATEST_NUMBER e.operation within.operation, le-ltb GREATEST_EVENT_TIME e.time within.time, le-ltb GREATEST_NUMBER e.train within.train) refl

events_shape : (k : ℕ) (plan : List Event) → first_broken rule.Shape (claims_from event_claims k (values_of (events_data plan))) ≡ None
events_shape k [] = refl
events_shape k (e ∷ plan) = none_both rule.Shape (event_claims k (event_data e)) _ (event_shape k e) (events_shape (k + 1) plan)

events_whole : (k : ℕ) (plan : List Event) → first_broken rule.Whole (claims_from event_claims k (values_of (events_data plan))) ≡ None
events_whole k [] = refl
events_whole k (e ∷ plan) = none_both rule.Whole (event_claims k (event_data e)) _ (event_whole k e) (events_whole (k + 1) plan)

events_limit : (k : ℕ) (plan : List Event) → AllByRecursion IsEventWithin plan → first_broken rule.Limit (claims_from event_claims k (values_of (events_data plan))) ≡ None
events_limit k [] within = refl
events_limit k (e ∷ plan) within = none_both rule.Limit (event_claims k (event_data e)) _ (event_limit k e within.0) (events_limit (k + 1) plan within.1)

solution_plain : (plan : List Event) (cost : ℕ) → AllByRecursion IsEventWithin plan → cost ≤ GREATEST_COST → IsPlainSolution (solution_data plan cost)
unfolding breaks
solution_plain plan cost within fits = record {
  shape = none_both rule.Shape (claims_from event_claims 0 (values_of (events_data plan))) _ (events_shape 0 plan) refl;
  whole = none_both rule.Whole (claims_from event_claims 0 (values_of (events_data plan))) _ (events_whole 0 plan) refl;
  limit = none_both rule.Limit (claims_from event_claims 0 (values_of (events_data plan))) _ (events_limit 0 plan within) (rw (le-ltb GREATEST_COST cost fits) refl);
}

as_many : (plan : List Event) → length (values_of (events_data plan)) ≡ length plan
as_many [] = refl
as_many (e ∷ plan) = ap suc (as_many plan)

-- ---- the plan and the cost

event_back : (e : Event) → IsEventWithin e → event_of (event_data e) ≡ Some e
unfolding event_of
event_back e within =
    rw (fits GREATEST_NUMBER e.operation within.operation, fits GREATEST_EVENT_TIME e.time within.time, fits GREATEST_NUMBER e.train within.train) refl

events_back : (plan : List Event) → AllByRecursion IsEventWithin plan → each event_of (values_of (events_data plan)) ≡ Some plan
events_back [] within = refl
events_back (e ∷ plan) within =
    each_cons event_of (event_data e) (values_of (events_data plan)) e plan (event_back e within.0) (events_back plan within.1)

cost_back : (plan : List Event) (cost : ℕ) → cost ≤ GREATEST_COST → stated_of (solution_data plan cost) ≡ Some (Some cost)
cost_back plan cost le = rw (fits GREATEST_COST cost le) refl

-- what is written of a plan and a cost within the limits is read again as the same
pub read_again : (plan : List Event) (cost : ℕ) → IsWithinLimits plan cost → IsReadAsSolution (solution_text plan cost) plan (Some cost)
read_again plan cost within =
    let events = recursion_from_All IsEventWithin plan within.events_fit in
    record {
      value = solution_data plan cost;
      json = text_is_json plan cost events (omega (arith, within.cost_fits));
      keeps = record {
        plain = solution_plain plan cost events within.cost_fits;
        few = omega (arith, within.few_events, as_many plan);
      };
      plan_is = events_back plan events;
      stated_is = cost_back plan cost within.cost_fits;
    }
