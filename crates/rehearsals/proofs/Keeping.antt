-- Plans that a rehearsal keeps.
use Rattle.std.proofs.Common.{List, ℕ}
use Rattle.std.specs.Prelude.{Option, IfSome}
use Rattle.std.proofs.lemmas.Option.{IfSome_then}
use Rattle.disp_model.specs.declared.plan.Event.{Event}
use Rattle.disp_model.specs.declared.settings.Rule.{Rule}
use Rattle.disp_model.specs.Node.{Node}
use Rattle.event_graph.specs.Joined.{IsOfEdition}
use Rattle.near_plans.specs.Plans.{IsFoundBeside, IsPlanAt}
use Rattle.near_plans.proofs.Finding.{beside_itself, found_is_plan}
use Rattle.tree_dives.specs.Stages.{HasPlan}

-- the plan at which a stage ends
pub stage_found : (node : Node) (rule : Rule) (best : Option ℕ) (plan : List Event) → HasPlan rule best node plan → IsFoundBeside node plan
stage_found node rule best plan has = record { here = node; beside = beside_itself node; picked = has.picked; earliest = has.earliest }

-- what is found under the fixings of an edition is a plan of that
pub some_is_plan : (node : Node) → IsOfEdition node → (plan : Option (List Event)) → IfSome plan (IsFoundBeside node) → IfSome plan (IsPlanAt node)
some_is_plan node edition plan found = IfSome_then plan found (found_is_plan node edition)
