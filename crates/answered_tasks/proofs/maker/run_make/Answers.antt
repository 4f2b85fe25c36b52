use Rattle.std.proofs.lemmas.Result.{IfOk-at_ok}
use Rattle.answered_tasks.specs.Answers.{AnswersMake}
use Rattle.answered_tasks.proofs.maker.run_make.Goals as goal

pub returns-clause-ok : goal.returns-clause-ok
returns-clause-ok g c = IfOk-at_ok (AnswersMake c.args.task.now) c.in_ok-answer_of.was
    (c.answer_of.ensures.ok c.in_ok-problem.ensures c.in_ok-core.ensures.problem
    (rw c.made_settings.ensures at c.in_ok-core.ensures.searched))
