use Rattle.std.proofs.lemmas.Result.{IfOk-weaker, IfErr-weaker}
use Rattle.answered_tasks.proofs.Stopped.{stops_task}
use Rattle.answered_tasks.proofs.run.run.Goals as goal

pub returns-in-Ok-clause-ok : goal.returns-in-Ok-clause-ok
returns-in-Ok-clause-ok g c = IfOk-weaker c.run_task.result _ _ (λ answer h words read. record {
  task = c.in-Ok.task;
  asked = c.in-Ok.ensures.ok words read;
  answers = h;
}) c.run_task.ensures.ok

pub returns-in-Ok-clause-no : goal.returns-in-Ok-clause-no
returns-in-Ok-clause-no g c = IfErr-weaker c.run_task.result _ _ (λ cause h words read.
    stops_task words _ _ _ c.in-Ok.task cause (c.in-Ok.ensures.ok words read) h)
    c.run_task.ensures.no

pub returns-in-Ok-clause-counts : goal.returns-in-Ok-clause-counts
returns-in-Ok-clause-counts g c words name read =
    let counts = c.run_task.ensures.counts name in
    record {
      never_falls = counts.never_falls;
      stays = λ unread. counts.stays (λ which named.
          unread c.in-Ok.task which (c.in-Ok.ensures.ok words read) named);
    }

pub returns-in-Err-clause-no : goal.returns-in-Err-clause-no
returns-in-Err-clause-no g c words read = c.in-Err.ensures.no words _ _ _ read
