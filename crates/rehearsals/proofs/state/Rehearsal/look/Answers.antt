use Rattle.std.proofs.Common.{◌∙◌, sym, ap, subst}
use Rattle.disp_model.specs.Node.{Node}
use Rattle.tree_dives.specs.declared.stage.Stage.TheVariants as stages
use Rattle.tree_dives.specs.Stages.{HasPlan, IsStageAt}
use Rattle.rehearsals.proofs.Keeping.{stage_found}
use Rattle.rehearsals.proofs.state.Rehearsal.look.Goals as goal

pub end_in-requires-clause-plan : goal.end_in-requires-clause-plan
end_in-requires-clause-plan c =
    let rule = c.args.reckoning.now.rule in
    let best = c.args.self.now.best in
    let plan = c.in-End-Plan.plan in
    let there = subst (IsStageAt rule best c.args.graph.now) (c.in-End-Plan.is ∙ ap stages.End c.in-End-Plan.field-0-is) c.in_ok-choice.ensures.stage in
    stage_found c.stage_of.new.graph rule best plan
    (subst (λ (n : Node). HasPlan rule best n plan) (sym c.in_ok-choice.ensures.same) there)
