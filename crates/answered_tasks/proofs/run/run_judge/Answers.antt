use Rattle.std.proofs.Common.{inl, inr}
use Rattle.std.proofs.lemmas.Result.{IfOk-weaker, IfErr-weaker}
use Rattle.answered_tasks.specs.Files.{IsProblemFile}
use Rattle.answered_tasks.specs.Outside.{IsName, IsOneOfTwo, IsOneOfThree}
use Rattle.text_puts.proofs.Counting.{never_falls}
use Rattle.answered_tasks.proofs.Stopped.{stops_judging, judged_file_before, fixings_before, reads_of_one, reads_then, reads_among}
use Rattle.answered_tasks.proofs.run.run_judge.Goals as goal

pub returns-in-Ok-clause-ok : goal.returns-in-Ok-clause-ok
returns-in-Ok-clause-ok g c =
    let holds = (g.S.Shelf.state c.args.shelf.now).holds in
    let mid = (g.S.Shelf.state c.problem_file.new.shelf).holds in
    let task = c.args.task.now in
    IfOk-weaker c.judge_files.result _ _ (λ answer h.
    let judged = judged_file_before holds mid c.args.telling c.in-Ok.problem h.fixings task.solution
    answer c.in-Ok.ensures.reads.held (rw (← c.as_str-in-Ok.ensures) h.judged) in
    record {
      problem = c.in-Ok.problem;
      problem_file = rw (← c.as_str.ensures) c.in-Ok.ensures.ok;
      fixings = h.fixings;
      fixings_file = fixings_before holds mid c.in-Ok.problem task.fixings h.fixings
          c.in-Ok.ensures.reads.held h.fixings_file;
      plan = judged.plan;
      stated = judged.stated;
      solution_file = judged.file;
      judged = judged.judged;
    }) (rw c.as_ref-fixings.ensures.value at c.judge_files.ensures.ok)

pub returns-in-Ok-clause-no : goal.returns-in-Ok-clause-no
returns-in-Ok-clause-no g c =
    let holds = (g.S.Shelf.state c.args.shelf.now).holds in
    let mid_holds = (g.S.Shelf.state c.problem_file.new.shelf).holds in
    let old = (g.S.Shelf.state c.args.shelf.now).reading in
    let mid = (g.S.Shelf.state c.problem_file.new.shelf).reading in
    let new = (g.S.Shelf.state c.judge_files.new.shelf).reading in
    let task = c.args.task.now in
    let file : IsProblemFile holds task.problem c.in-Ok.problem =
    rw (← c.as_str.ensures) c.in-Ok.ensures.ok in
    IfErr-weaker c.judge_files.result _ _ (λ cause h. inr (
      c.in-Ok.problem,
      file,
      stops_judging holds mid_holds old mid new c.in-Ok.problem task.fixings task.solution cause
          c.in-Ok.ensures.reads.held
          (never_falls c.as_str.result.now old mid c.in-Ok.ensures.reads.counted
          c.in-Ok.ensures.reads.others) (rw (← c.as_str-in-Ok.ensures) h),
    )) (rw c.as_ref-fixings.ensures.value at c.judge_files.ensures.no)

pub returns-in-Ok-clause-reads : goal.returns-in-Ok-clause-reads
returns-in-Ok-clause-reads g c =
    let task = c.args.task.now in
    let first = reads_of_one task.problem _ _ _
    (rw c.as_str.ensures at c.in-Ok.ensures.reads) in
    let second = rw (c.as_ref-fixings.ensures.value, c.as_str-in-Ok.ensures)
    at c.judge_files.ensures.reads in
    reads_then (IsName task.problem) (IsOneOfTwo task.fixings task.solution)
    _ _ _ _ _ (λ e. e) first second

pub returns-in-Err-clause-no : goal.returns-in-Err-clause-no
returns-in-Err-clause-no g c = inl (rw (← c.as_str.ensures) c.in-Err.ensures.no)

pub returns-in-Err-clause-reads : goal.returns-in-Err-clause-reads
returns-in-Err-clause-reads g c =
    let task = c.args.task.now in
    reads_among (IsName task.problem) (IsOneOfThree task.problem task.fixings task.solution)
    _ _ _ (λ n e. inl e)
    (reads_of_one task.problem _ _ _ (rw c.as_str.ensures at c.in-Err.ensures.reads))
