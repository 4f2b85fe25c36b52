-- Plans that are found at nodes beside each other.
use Rattle.std.proofs.Common.{◌≡◌, ◌∙◌, ◌≤◌, List, refl, sym, ap, subst}
use Rattle.std.specs.Prelude.{All, Contains, Option, Some, IfSome}
use Rattle.std.proofs.lemmas.Option.{IfSome_then}
use Rattle.std.proofs.lemmas.List.Elements.{All-contains_itself, All-weaker}
use Rattle.disp_model.specs.declared.decision.Decision.{Decision}
use Rattle.disp_model.specs.declared.plan.Event.{Event}
use Rattle.disp_model.specs.declared.problem.Problem.{Problem}
use Rattle.disp_model.specs.WellFormed.{horizon}
use Rattle.disp_model.specs.Node.{Node, node_at}
use Rattle.disp_model.specs.Valid.{IsValid}
use Rattle.disp_model.specs.Earliest.{IsEarliest}
use Rattle.disp_laws.proofs.EarliestPlans.{one_earliest}
use Rattle.disp_laws.proofs.HorizonBounds.{AreSmall, edition_is_small, within_horizon}
use Rattle.disp_model.specs.declared.settings.Rule.TheVariants.{Free}
use Rattle.branch_rules.specs.declared.pick.Pick.{Pick as PickOf}
use Rattle.branch_rules.specs.declared.pick.Pick.TheVariants.{Plan}
use Rattle.event_graph.specs.Joined.{IsOfEdition}
use Rattle.free_choices.specs.Picks.{IsPickBy}
use Rattle.near_plans.specs.Plans.{IsBeside, IsFoundBeside, IsPlanAt}

pub beside_itself : (node : Node) → IsBeside node node
beside_itself node = record { problem = refl; fixings = refl }

pub beside_beside : (one two three : Node) → IsBeside one two → IsBeside two three → IsBeside one three
beside_beside one two three first second = record { problem = second.problem ∙ first.problem; fixings = second.fixings ∙ first.fixings }

pub beside_at : (before after : Node) (decisions : List Decision) → after ≡ node_at before.problem before.fixings decisions → IsBeside before after
beside_at before after decisions is = record { problem = ap (λ (n : Node). n.problem) is; fixings = ap (λ (n : Node). n.fixings) is }

pub beside_same : (before after : Node) → after ≡ before → IsBeside before after
beside_same before after is = subst (IsBeside before) (sym is) (beside_itself before)

pub found_beside : (one two : Node) → IsBeside one two → (plan : List Event) → IsFoundBeside two plan → IsFoundBeside one plan
found_beside one two beside plan found = record {
  here = found.here;
  beside = beside_beside one two found.here beside found.beside;
  picked = found.picked;
  earliest = found.earliest;
}

-- and so from the one to the other
pub found_there : (one two : Node) → IsBeside one two → (plan : List Event) → IsFoundBeside one plan → IsFoundBeside two plan
found_there one two beside plan found =
    found_beside two one (record { problem = sym beside.problem; fixings = sym beside.fixings }) plan found

pub some_found_beside : (one two : Node) → IsBeside one two → (plan : Option (List Event)) → IfSome plan (IsFoundBeside two) → IfSome plan (IsFoundBeside one)
some_found_beside one two beside plan found = IfSome_then plan found (found_beside one two beside)

-- what is found at a node of which nothing is picked
pub found_here : (node : Node) (pick : Option PickOf) (plan : List Event) → pick ≡ Some (Plan plan) → IfSome pick (IsPickBy Free node) → IsFoundBeside node plan
found_here node pick plan is found =
    let here = subst (λ (p : Option PickOf). IfSome p (IsPickBy Free node)) is found in
    record { here = node; beside = beside_itself node; picked = here.0; earliest = here.1 }

-- each event of an earliest plan starts at a longest walk, which is within the horizon
pub earliest_within : (node : Node) (plan : List Event) → AreSmall node.fixings → IsEarliest node plan → All (λ e. e.time ≤ horizon node.problem.trains) plan
earliest_within node plan small earliest =
    All-weaker (Contains plan) (λ (e : Event). e.time ≤ horizon node.problem.trains) within plan (All-contains_itself plan)
  where
    within : (e : Event) → Contains plan e → e.time ≤ horizon node.problem.trains
    within e there =
        let reached = (earliest.none_else e there).1.reached in
        within_horizon node reached.0 e.time small earliest.no_cycle reached.3

-- the fixings of an edition are small, at a node beside too
pub small_beside : (node here : Node) → IsOfEdition node → here.fixings ≡ node.fixings → AreSmall here.fixings
small_beside node here (changes, edition, standing) same = subst AreSmall (sym (same ∙ standing)) (edition_is_small node.problem changes edition)

pub found_is_plan : (node : Node) → IsOfEdition node → (plan : List Event) → IsFoundBeside node plan → IsPlanAt node plan
found_is_plan node edition plan found = record {
  valid = subst (λ (p : Problem). IsValid p node.fixings plan) found.beside.problem (subst (λ f. IsValid found.here.problem f plan) found.beside.fixings valid_here);
  within = subst (λ (p : Problem). All (λ e. e.time ≤ horizon p.trains) plan) found.beside.problem
      (earliest_within found.here plan (small_beside node found.here edition found.beside.fixings) found.earliest);
}
  where
    valid_here : IsValid found.here.problem found.here.fixings plan
    valid_here = subst (IsValid found.here.problem found.here.fixings) (one_earliest found.here found.picked.plan plan found.picked.earliest found.earliest) found.picked.valid
