-- Each text has an answer beside want of memory.
use Rattle.std.proofs.Common.{◌≡◌, ◌⊎◌, ℕ, ◌<◌, ◌≤◌, List, Option, Some, None, refl, inl, inr}
use Rattle.std.proofs.lemmas.Bool.{cases_lt}
use Rattle.serde_json.specs.Data.{Data}
use Rattle.disp_model.specs.declared.limits.TheConstants.{MOST_EVENTS}
use Rattle.json_claims.specs.declared.rule.Rule.TheVariants as rule
use Rattle.json_claims.specs.Json.{IsJson, IsNoJson}
use Rattle.json_claims.proofs.Readable.{json_or_not}
use Rattle.solution_text.specs.declared.place.SolutionPlace.{SolutionPlace}
use Rattle.solution_text.specs.declared.fault.SolutionNo.TheVariants.{NotJson, Shape, NotWhole, TooLarge, TooMany}
use Rattle.solution_text.specs.PlanOf.{events_given}
use Rattle.solution_text.specs.Reading.{broken_solution_place, IsPlainSolution, HasSolutionAnswer}
use Rattle.solution_text.proofs.Kept.{plan_there, stated_there}

by_count : (bytes : List ℕ) (d : Data) → IsJson bytes d → IsPlainSolution d → (MOST_EVENTS < events_given d) ⊎ (events_given d ≤ MOST_EVENTS) → HasSolutionAnswer bytes
by_count bytes d json plain (inl many) = inr (TooMany (events_given d), record { value = d; json = json; breaks = (plain, refl, many) }, λ e. absurd cc)
by_count bytes d json plain (inr few) =
    let plan = plan_there d plain in
    let stated = stated_there d plain in
    inl (plan.0, stated.0, record { value = d; json = json; keeps = record { plain = plain; few = few }; plan_is = plan.1; stated_is = stated.1 })

by_rules : (bytes : List ℕ) (d : Data) → IsJson bytes d → (shape whole limit : Option SolutionPlace) → broken_solution_place rule.Shape d ≡ shape → broken_solution_place rule.Whole d ≡ whole → broken_solution_place rule.Limit d ≡ limit → HasSolutionAnswer bytes
by_rules bytes d json (Some place) whole limit s w l = inr (Shape place, record { value = d; json = json; breaks = s }, λ e. absurd cc)
by_rules bytes d json None (Some place) limit s w l = inr (NotWhole place, record { value = d; json = json; breaks = (s, w) }, λ e. absurd cc)
by_rules bytes d json None None (Some place) s w l = inr (TooLarge place, record { value = d; json = json; breaks = (s, w, l) }, λ e. absurd cc)
by_rules bytes d json None None None s w l = by_count bytes d json (record { shape = s; whole = w; limit = l }) (cases_lt MOST_EVENTS (events_given d))

by_json : (bytes : List ℕ) → ((d : Data) × IsJson bytes d) ⊎ IsNoJson bytes → HasSolutionAnswer bytes
by_json bytes (inl (d, json)) = by_rules bytes d json (broken_solution_place rule.Shape d) (broken_solution_place rule.Whole d) (broken_solution_place rule.Limit d) refl refl refl
by_json bytes (inr none) = inr (NotJson, none, λ e. absurd cc)

pub has_answer : (bytes : List ℕ) → HasSolutionAnswer bytes
has_answer bytes = by_json bytes (json_or_not bytes)
