use Rattle.std.proofs.Common.{refl, inr}
use Rattle.answered_tasks.proofs.Checking.{right_under}
use Rattle.answered_tasks.proofs.judge_tree.fits.Goals as goal

pub returns-in-Ok-verify : goal.returns-in-Ok-verify
returns-in-Ok-verify c = right_under c.args.problem.now c.args.fixings.now c.args.plan.now c.args.stated c.args.cost _ _ ((c.in-Ok.ensures.right c.in-Ok.field-0).0 refl) ((c.in-Ok-verify.ensures.right c.in-Ok-verify.field-0).0 refl)

pub returns-in-Err-verify : goal.returns-in-Err-verify
returns-in-Err-verify c = inr (c.in-Ok.field-0, (c.in-Ok.ensures.right c.in-Ok.field-0).0 refl, (c.in-Err-verify.ensures.first c.in-Err-verify.fault).0 refl)
