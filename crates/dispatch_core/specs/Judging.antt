-- What is found of a plan.
use Rattle.std.specs.Prelude.{◌≡◌, List, None}
use Rattle.disp_model.specs.declared.plan.Event.{Event}
use Rattle.disp_model.specs.Valid.{IsValid}
use Rattle.disp_model.specs.Cost.{cost_of}
use Rattle.disp_model.specs.History.{edition_of}
use Rattle.solution_verifier.specs.First.{IsFirstFault}
use Rattle.dispatch_core.specs.declared.verdict.Judged.{Judged}
use Rattle.dispatch_core.specs.declared.verdict.Judged.TheVariants.{Costs, Fault}
use Rattle.dispatch_core.specs.States.{Core}

-- the plan is valid for the newest edition and costs so much, or has this first fault
abbrev pub IsPlanJudged : Core → List Event → Judged → Type 0
IsPlanJudged core plan (Costs cost) = IsValid core.problem (edition_of core.history) plan
    × (cost ≡ cost_of core.problem.components plan)
IsPlanJudged core plan (Fault fault) = IsFirstFault core.problem (edition_of core.history) plan None
    fault
