use Rattle.std.proofs.Common.{◌∙◌}
use Rattle.branch_rules.proofs.Placing.{behind_none}
use Rattle.branch_rules.proofs.behind.Behind.none.Goals as goal

pub returns : goal.returns
returns c = λ plan.
    behind_none c.args.problem.now plan _ (c.in_ok-next.ensures.count ∙ c.len.ensures) c.in_ok-next.ensures.none (c.in_ok-listed.ensures.count ∙ c.len-2.ensures) c.in_ok-listed.ensures.none
