use Rattle.answered_tasks.proofs.Checking.{reads_nothing, reads_given}
use Rattle.answered_tasks.proofs.input.given_plan.Goals as goal

pub returns-in-Ok-clause-reads : goal.returns-in-Ok-clause-reads
returns-in-Ok-clause-reads g c = rw c.in-Some.is (reads_given c.in-Some.name.now _ _ _ (rw c.as_str.ensures at c.in-Ok.ensures.reads))

pub returns-in-Err-clause-reads : goal.returns-in-Err-clause-reads
returns-in-Err-clause-reads g c = rw c.in-Some.is (reads_given c.in-Some.name.now _ _ _ (rw c.as_str.ensures at c.in-Err.ensures.reads))

pub returns-in_default-clause-reads : goal.returns-in_default-clause-reads
returns-in_default-clause-reads g c = reads_nothing _ _ _
