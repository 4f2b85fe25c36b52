-- What `read_solution` answers, beside the bytes.
use Rattle.std.specs.Prelude.{◌≡◌, ◌≢◌, ◌⊎◌, ◌≤◌, ◌<◌, ℕ, List, Option, Some, None, Result, Ok, Err}
use Rattle.serde_json.specs.Data.{Data}
use Rattle.disp_model.specs.declared.plan.Event.{Event}
use Rattle.disp_model.specs.declared.limits.TheConstants.{MOST_EVENTS}
use Rattle.solution_text.specs.declared.place.SolutionPlace.{SolutionPlace}
use Rattle.solution_text.specs.declared.fault.SolutionNo.{SolutionNo}
use Rattle.solution_text.specs.declared.fault.SolutionNo.TheVariants.{NotJson, Shape, NotWhole, TooLarge, TooMany, Memory}
use Rattle.json_claims.specs.declared.rule.Rule.{Rule}
use Rattle.json_claims.specs.declared.rule.Rule.TheVariants as rule
use Rattle.json_claims.specs.Json.{IsJson, IsNoJson}
use Rattle.json_claims.specs.Claims.{first_broken, ArePlain}
use Rattle.json_claims.specs.Refusals.{BreaksFirst}
use Rattle.solution_text.specs.Claims.{solution_claims}
use Rattle.solution_text.specs.PlanOf.{plan_of, stated_of, events_given}

-- ---- the rules

-- the first place of the value that breaks the rule
abbrev pub broken_solution_place : Rule → Data → Option SolutionPlace
broken_solution_place rule d = first_broken rule (solution_claims d)

-- each value is of its kind, needed ones are there, and numbers are whole and within their limits
abbrev pub IsPlainSolution : Data → Type 0
IsPlainSolution d = ArePlain (solution_claims d)

-- no rule is broken
pub record KeepsSolutionRules (d : Data) : Type 0 where
  pub plain : IsPlainSolution d
  pub few : events_given d ≤ MOST_EVENTS

-- ---- the answers

-- the bytes are JSON, no rule is broken, and the plan and the stated value are those of their value
pub record IsReadAsSolution (bytes : List ℕ) (plan : List Event) (stated : Option ℕ) : Type 0 where
  pub value : Data
  pub json : IsJson bytes value
  pub keeps : KeepsSolutionRules value
  pub plan_is : plan_of value ≡ Some plan
  pub stated_is : stated_of value ≡ Some stated

-- the value breaks the rule of the refusal, there, and none before it
abbrev pub BreaksSolution : Data → SolutionNo → Type 0
BreaksSolution d NotJson = ⊥
BreaksSolution d (Shape place) = broken_solution_place rule.Shape d ≡ Some place
BreaksSolution d (NotWhole place) = (broken_solution_place rule.Shape d ≡ None)
    × (broken_solution_place rule.Whole d ≡ Some place)
BreaksSolution d (TooLarge place) = (broken_solution_place rule.Shape d ≡ None)
    × (broken_solution_place rule.Whole d ≡ None)
    × (broken_solution_place rule.Limit d ≡ Some place)
BreaksSolution d (TooMany count) = IsPlainSolution d × (events_given d ≡ count)
    × (MOST_EVENTS < count)
BreaksSolution d Memory = Unit {0}

-- why there is no solution of the bytes; want of memory may come whatever they are
abbrev pub IsRefusedSolution : List ℕ → SolutionNo → Type 0
IsRefusedSolution bytes NotJson = IsNoJson bytes
IsRefusedSolution bytes (Shape place) = BreaksFirst BreaksSolution bytes (Shape place)
IsRefusedSolution bytes (NotWhole place) = BreaksFirst BreaksSolution bytes (NotWhole place)
IsRefusedSolution bytes (TooLarge place) = BreaksFirst BreaksSolution bytes (TooLarge place)
IsRefusedSolution bytes (TooMany count) = BreaksFirst BreaksSolution bytes (TooMany count)
IsRefusedSolution bytes Memory = Unit {0}

-- a plan is read of the text, or it is refused for another cause than want of memory
abbrev pub HasSolutionAnswer : List ℕ → Type 0
HasSolutionAnswer bytes = ((plan : List Event) × (stated : Option ℕ)
    × IsReadAsSolution bytes plan stated) ⊎
    ((why : SolutionNo) × IsRefusedSolution bytes why × (why ≢ Memory))

-- ---- for private clauses

-- the plan and the stated value of a value, or the rule that it breaks first
abbrev pub AnswersSolution : Result (List Event × Option ℕ) SolutionNo → Data → Type 0
AnswersSolution (Ok p) d = KeepsSolutionRules d × (plan_of d ≡ Some p.0) × (stated_of d ≡ Some p.1)
AnswersSolution (Err why) d = BreaksSolution d why
