use Rattle.std.proofs.Common.{inl, inr}
use Rattle.std.proofs.lemmas.Result.{IfOk-weaker, IfErr-weaker}
use Rattle.answered_tasks.specs.Files.{IsProblemFile}
use Rattle.answered_tasks.specs.Outside.{IsName, IsGiven, IsProblemOrFixings}
use Rattle.text_puts.proofs.Counting.{never_falls}
use Rattle.answered_tasks.proofs.Stopped.{given_before, asked_before, reads_of_one, reads_then, reads_among}
use Rattle.answered_tasks.proofs.run.run_solve.Goals as goal

pub returns-in-Ok-clause-ok : goal.returns-in-Ok-clause-ok
returns-in-Ok-clause-ok g c =
    let holds = (g.S.Shelf.state c.args.shelf.now).holds in
    let mid = (g.S.Shelf.state c.problem_file.new.shelf).holds in
    let fixings = c.args.task.now.fixings in
    IfOk-weaker c.solve_with.result _ _ (λ answer h. record {
      problem = c.in-Ok.problem;
      file = rw (← c.as_str.ensures) c.in-Ok.ensures.ok;
      asked = h.asked;
      lines = asked_before holds mid c.in-Ok.problem fixings h.asked c.in-Ok.ensures.reads.held
          h.lines;
      solved = h.solved;
    }) c.solve_with.ensures.ok

pub returns-in-Ok-clause-no : goal.returns-in-Ok-clause-no
returns-in-Ok-clause-no g c =
    let holds = (g.S.Shelf.state c.args.shelf.now).holds in
    let mid_holds = (g.S.Shelf.state c.problem_file.new.shelf).holds in
    let old = (g.S.Shelf.state c.args.shelf.now).reading in
    let mid = (g.S.Shelf.state c.problem_file.new.shelf).reading in
    let new = (g.S.Shelf.state c.solve_with.new.shelf).reading in
    let fixings = c.args.task.now.fixings in
    let file : IsProblemFile holds c.args.task.now.problem c.in-Ok.problem =
    rw (← c.as_str.ensures) c.in-Ok.ensures.ok in
    IfErr-weaker c.solve_with.result _ _ (λ cause h. inr (
      c.in-Ok.problem,
      file,
      given_before holds mid_holds old mid new c.in-Ok.problem fixings cause
          c.in-Ok.ensures.reads.held (never_falls c.as_str.result.now old mid
          c.in-Ok.ensures.reads.counted c.in-Ok.ensures.reads.others) h,
    )) c.solve_with.ensures.no

pub returns-in-Ok-clause-reads : goal.returns-in-Ok-clause-reads
returns-in-Ok-clause-reads g c =
    let fixings = c.args.task.now.fixings in
    let first = reads_of_one c.args.task.now.problem _ _ _
    (rw c.as_str.ensures at c.in-Ok.ensures.reads) in
    reads_then (IsName c.args.task.now.problem) (IsGiven fixings) _ _ _ _ _ (λ e. e) first
    c.solve_with.ensures.reads

pub returns-in-Err-clause-no : goal.returns-in-Err-clause-no
returns-in-Err-clause-no g c = inl (rw (← c.as_str.ensures) c.in-Err.ensures.no)

pub returns-in-Err-clause-reads : goal.returns-in-Err-clause-reads
returns-in-Err-clause-reads g c =
    let fixings = c.args.task.now.fixings in
    reads_among (IsName c.args.task.now.problem) (IsProblemOrFixings c.args.task.now.problem fixings)
    _ _ _ (λ n e. inl e)
    (reads_of_one c.args.task.now.problem _ _ _ (rw c.as_str.ensures at c.in-Err.ensures.reads))
