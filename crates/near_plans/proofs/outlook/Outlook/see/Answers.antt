use Rattle.std.proofs.Common.{◌∙◌, ap}
use Rattle.std.specs.Prelude.{Some}
use Rattle.near_plans.proofs.Finding.{found_beside, found_here}
use Rattle.near_plans.proofs.outlook.Outlook.see.Goals as goal

pub returns-in-Some-Plan-clause-plan : goal.returns-in-Some-Plan-clause-plan
returns-in-Some-Plan-clause-plan c =
    let node = c.args.graph.now in
    let plan = c.in-Some-Plan.plan in
    λ root beside before. found_beside root node beside plan
    (found_here node c.in_ok-picked.field-0 plan (c.in-Some-Plan.is ∙ ap Some c.in-Some-Plan.field-0-is) c.in_ok-picked.ensures.picked)
