-- What an explorer keeps while its graph is moved.
use Rattle.std.proofs.Common.{◌≡◌, ◌∙◌, ◌≤◌, List, sym, ap, subst}
use Rattle.std.specs.Prelude.{All, Option, IfSome}
use Rattle.std.proofs.lemmas.Option.{IfSome_then}
use Rattle.disp_model.specs.declared.decision.Decision.{Decision}
use Rattle.disp_model.specs.declared.fixing.Fixing.{Fixing}
use Rattle.disp_model.specs.declared.plan.Event.{Event}
use Rattle.disp_model.specs.declared.problem.Problem.{Problem}
use Rattle.disp_model.specs.WellFormed.{horizon}
use Rattle.disp_model.specs.Node.{Node, node_at}
use Rattle.disp_model.specs.Replies.{IsEdition}
use Rattle.disp_model.specs.Valid.{IsValid}
use Rattle.event_graph.specs.Joined.{IsOfEdition}
use Rattle.near_plans.specs.Plans.{IsBeside, IsPlanAt}

-- the node of some decisions is the same one
pub node_beside : (one two : Node) → IsBeside one two → (decisions : List Decision) → node_at two.problem two.fixings decisions ≡ node_at one.problem one.fixings decisions
node_beside one two beside decisions =
    ap (λ (p : Problem). node_at p two.fixings decisions) beside.problem ∙ ap (λ (f : List Fixing). node_at one.problem f decisions) beside.fixings

-- it is of an edition
pub edition_beside : (one two : Node) → IsBeside one two → IsOfEdition one → IsOfEdition two
edition_beside one two beside (changes, edition, standing) =
    (changes, subst (λ (p : Problem). IsEdition p changes) (sym beside.problem) edition, beside.fixings ∙ standing)

plan_beside : (one two : Node) → IsBeside one two → (plan : List Event) → IsPlanAt one plan → IsPlanAt two plan
plan_beside one two beside plan is = record {
  valid = subst (λ (p : Problem). IsValid p two.fixings plan) (sym beside.problem) (subst (λ (f : List Fixing). IsValid one.problem f plan) (sym beside.fixings) is.valid);
  within = subst (λ (p : Problem). All (λ e. e.time ≤ horizon p.trains) plan) (sym beside.problem) is.within;
}

-- a plan is one there too
pub some_plan_beside : (one two : Node) → IsBeside one two → (plan : Option (List Event)) → IfSome plan (IsPlanAt one) → IfSome plan (IsPlanAt two)
some_plan_beside one two beside plan is = IfSome_then plan is (plan_beside one two beside)
