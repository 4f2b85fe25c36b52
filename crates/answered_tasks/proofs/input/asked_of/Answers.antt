use Rattle.answered_tasks.proofs.Checking.{reads_nothing, reads_given}
use Rattle.answered_tasks.proofs.input.asked_of.Goals as goal

pub returns-in-Some-clause-reads : goal.returns-in-Some-clause-reads
returns-in-Some-clause-reads g c = rw c.in-Some.is (reads_given c.in-Some.name.now _ _ _
    (rw c.as_str.ensures at c.asked_file.ensures.reads))

pub returns-in-None-clause-reads : goal.returns-in-None-clause-reads
returns-in-None-clause-reads g c = reads_nothing _ _ _
