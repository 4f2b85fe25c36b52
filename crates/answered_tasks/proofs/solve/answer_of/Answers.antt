use Rattle.std.proofs.Common.{◌≡◌, ◌∙◌, List, ap, subst, option_map}
use Rattle.std.proofs.lemmas.Result.{IfOk-at_ok}
use Rattle.disp_model.specs.declared.entry.Entry.{Entry}
use Rattle.disp_model.specs.declared.problem.Problem.{Problem}
use Rattle.disp_model.specs.History.{last_plan, IsStanding}
use Rattle.answered_tasks.specs.Answers.{best_plan, puts_of}
use Rattle.answered_tasks.specs.Settled.{settled_tree}
use Rattle.answered_tasks.specs.Texts.{answer_lines}
use Rattle.answered_tasks.proofs.Searched.{solved_is}
use Rattle.answered_tasks.proofs.solve.answer_of.Goals as goal

pub returns-clause-ok : goal.returns-clause-ok
returns-clause-ok c problem asked same searched =
    let standing = c.standing-standing.result in
    let history = c.args.core.history in
    let task = c.args.task.now in
    let best = option_map (λ p. (p.0.now, p.1)) c.best_plan-best.result in
    let best_is : best ≡ best_plan standing (last_plan history) =
    c.best_plan-best.ensures ∙ ap (λ (h : List Entry). best_plan standing (last_plan h))
    (c.as_slice.ensures.value ∙ c.into_history-journal.ensures) in
    let settled = option_map (λ s. (s.0, s.1.now)) c.settled_tree-settled.result in
    let settled_is : settled ≡ settled_tree standing.edition history =
    c.settled_tree-settled.ensures ∙ ap (λ (h : List Entry). settled_tree standing.edition h)
    (c.as_slice-2.ensures.value ∙ c.into_history-journal.ensures) in
    solved_is problem task asked history standing _ searched
    (subst (λ (p : Problem). IsStanding p history standing) same c.standing-standing.ensures)
    (c.from_vec.ensures ∙ c.into_history-journal.ensures) c.status_of.ensures.is
    (IfOk-at_ok (λ l. l ≡ answer_lines standing best standing.mark) c.in_ok-lines.was
    c.lines_of.ensures ∙ ap (λ b. answer_lines standing b standing.mark) best_is)
    (IfOk-at_ok (λ p. p ≡ puts_of task standing.edition best settled) c.in_ok-puts.was
    c.puts_of.ensures ∙ ap (λ b. puts_of task standing.edition b settled) best_is
    ∙ ap (puts_of task standing.edition (best_plan standing (last_plan history))) settled_is)
