use Rattle.std.proofs.Common.{ap, ◌∙◌, ◌∷◌, []}
use Rattle.std.proofs.lemmas.Result.{IfOk-weaker}
use Rattle.tree_checker.specs.declared.why.Checked.TheVariants.{Accepted, Refused}
use Rattle.answered_tasks.proofs.Checking.{checked_as}
use Rattle.answered_tasks.proofs.judge_tree.answer_to.Goals as goal

pub returns-in-Accepted-clause-ok : goal.returns-in-Accepted-clause-ok
returns-in-Accepted-clause-ok c = IfOk-weaker c.accepted.result _ _ (λ answer h. record {
  journal = h.accepted.journal;
  puts = h.accepted.puts;
  checked = Accepted;
  is_checked = checked_as c.args.problem.now c.args.fixings.now c.args.verdict _ _ _ _ c.as_slice.ensures c.in-Accepted.is c.in_ok-check.ensures;
  says = (h.said, h.said_of_plan, h.accepted.status_is, h.accepted.lines_are);
}) c.accepted.ensures.ok

pub returns-in_ok-refused_line-in-Refused-clause-ok : goal.returns-in_ok-refused_line-in-Refused-clause-ok
returns-in_ok-refused_line-in-Refused-clause-ok c = IfOk-weaker c.one_line.result _ _ (λ answer h. record {
  journal = h.journal;
  puts = h.puts;
  checked = Refused c.in-Refused.node c.in-Refused.why;
  is_checked = checked_as c.args.problem.now c.args.fixings.now c.args.verdict _ _ _ _ c.as_slice.ensures c.in-Refused.is c.in_ok-check.ensures;
  says = (h.status_is, h.lines ∙ ap (λ l. l ∷ []) c.in_ok-refused_line-in-Refused.ensures);
}) c.one_line.ensures
