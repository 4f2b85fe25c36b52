use Rattle.std.proofs.Common.{refl}
use Rattle.std.proofs.lemmas.Result.{IfErr-weaker}
use Rattle.command_words.specs.declared.task.Task.TheVariants.{Verify, Report}
use Rattle.answered_tasks.proofs.Stopped.{counts_of_two, counts_of_three, stops_solve, stops_judge}
use Rattle.answered_tasks.proofs.Checking.{counts_of_four}
use Rattle.answered_tasks.proofs.run.run_task.Goals as goal

pub returns-in-Verify-clause-counts : goal.returns-in-Verify-clause-counts
returns-in-Verify-clause-counts g c name =
    let task = c.in-Verify.task in
    rw c.in-Verify.is (counts_of_three (Verify task) task (λ which. refl) _ _
    c.run_judge.ensures.reads.counted c.run_judge.ensures.reads.others name)

pub returns-in-Verify-clause-no : goal.returns-in-Verify-clause-no
returns-in-Verify-clause-no g c =
    let holds = (g.S.Shelf.state c.args.shelf.now).holds in
    let old = (g.S.Shelf.state c.args.shelf.now).reading in
    let new = (g.S.Shelf.state c.run_judge.new.shelf).reading in
    let task = c.in-Verify.task in
    rw c.in-Verify.is (IfErr-weaker c.run_judge.result _ _
    (stops_judge holds old new (Verify task) task (λ which. refl)) c.run_judge.ensures.no)

pub returns-in-Report-clause-counts : goal.returns-in-Report-clause-counts
returns-in-Report-clause-counts g c name =
    let task = c.in-Report.task in
    rw c.in-Report.is (counts_of_three (Report task) task (λ which. refl) _ _
    c.run_judge-in-Report.ensures.reads.counted c.run_judge-in-Report.ensures.reads.others name)

pub returns-in-Report-clause-no : goal.returns-in-Report-clause-no
returns-in-Report-clause-no g c =
    let holds = (g.S.Shelf.state c.args.shelf.now).holds in
    let old = (g.S.Shelf.state c.args.shelf.now).reading in
    let new = (g.S.Shelf.state c.run_judge-in-Report.new.shelf).reading in
    let task = c.in-Report.task in
    rw c.in-Report.is (IfErr-weaker c.run_judge-in-Report.result _ _
    (stops_judge holds old new (Report task) task (λ which. refl)) c.run_judge-in-Report.ensures.no)

pub returns-in-Check-clause-counts : goal.returns-in-Check-clause-counts
returns-in-Check-clause-counts g c name = rw c.in-Check.is
    (rw (← c.as_ref.ensures.value, ← c.as_ref-in-Check.ensures.value)
    (counts_of_four c.in-Check.problem c.in-Check.tree _ _ _ _ c.run_check.ensures.reads.counted
    c.run_check.ensures.reads.others name))

pub returns-in-Check-clause-no : goal.returns-in-Check-clause-no
returns-in-Check-clause-no g c = rw c.in-Check.is
    (rw (← c.as_ref.ensures.value, ← c.as_ref-in-Check.ensures.value) c.run_check.ensures.no)

pub returns-in-Solve-clause-counts : goal.returns-in-Solve-clause-counts
returns-in-Solve-clause-counts g c name = rw c.in-Solve.is (counts_of_two c.in-Solve.task _ _
    c.run_solve.ensures.reads.counted c.run_solve.ensures.reads.others name)

pub returns-in-Solve-clause-no : goal.returns-in-Solve-clause-no
returns-in-Solve-clause-no g c =
    let holds = (g.S.Shelf.state c.args.shelf.now).holds in
    let old = (g.S.Shelf.state c.args.shelf.now).reading in
    let new = (g.S.Shelf.state c.run_solve.new.shelf).reading in
    rw c.in-Solve.is (IfErr-weaker c.run_solve.result _ _
    (λ cause h. stops_solve holds old new c.in-Solve.task cause h) c.run_solve.ensures.no)
