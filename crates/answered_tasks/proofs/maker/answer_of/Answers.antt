use Rattle.std.proofs.Common.{◌≡◌, ◌∙◌, List, [], sym, subst}
use Rattle.std.proofs.lemmas.Result.{IfOk-at_ok}
use Rattle.disp_model.specs.declared.entry.Entry.{Entry}
use Rattle.disp_model.specs.declared.problem.Problem.{Problem}
use Rattle.disp_model.specs.History.{IsStanding}
use Rattle.answered_tasks.specs.Answers.{IsFinished, made_settings}
use Rattle.answered_tasks.specs.Texts.{made_lines}
use Rattle.answered_tasks.proofs.Searched.{finished_is}
use Rattle.answered_tasks.proofs.maker.answer_of.Goals as goal

pub returns-clause-ok : goal.returns-clause-ok
returns-clause-ok c made same searched =
    let problem = c.args.problem.now in
    let standing = c.standing-standing.result in
    let history = c.args.core.history in
    let journal = c.from_vec.ensures ∙ c.into_history-journal.ensures in
    record {
      problem = problem;
      made = made;
      standing = standing;
      finished = subst (λ (h : List Entry). IsFinished problem made_settings [] h standing)
          (sym journal)
          (finished_is problem made_settings [] history standing searched
          (subst (λ (p : Problem). IsStanding p history standing) same c.standing-standing.ensures));
      status = c.status_of.ensures.is;
      lines = IfOk-at_ok (λ l. l ≡ made_lines problem standing) c.in_ok-lines.was
          c.made_lines.ensures;
      puts = rw (← c.as_ref.ensures.value) (IfOk-at_ok _ c.in_ok-puts.was c.puts_of.ensures);
    }
