use Rattle.serde_json.specs.View.{view}
use Rattle.solution_text.specs.PlanOf.{plan_of}
use Rattle.solution_text.proofs.Kept.{plan_there}
use Rattle.json_claims.proofs.Unreadable.{is_readable}
use Rattle.solution_text.proofs.read.plan_of.Goals as goal

pub unreachable-requires : goal.unreachable-requires
unreachable-requires c =
    let d = view c.args.value.now in
    let plan = plan_there d c.requires.keeps.plain in
    is_readable c.in-Err-Nothing.field-0 (plan_of d) plan.0 c.in-Err-Nothing.field-0-is c.in-Err-Nothing.ensures plan.1
