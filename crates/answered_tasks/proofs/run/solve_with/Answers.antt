use Rattle.std.proofs.lemmas.Result.{IfOk-weaker, IfErr-weaker}
use Rattle.answered_tasks.proofs.Stopped.{want_stops}
use Rattle.answered_tasks.proofs.Searched.{may_be_asked}
use Rattle.answered_tasks.proofs.Checking.{reads_well}
use Rattle.answered_tasks.proofs.run.solve_with.Goals as goal

pub solve-requires : goal.solve-requires
solve-requires g c =
    let holds = (g.S.Shelf.state c.args.shelf.now).holds in
    let fixings = c.args.task.now.fixings in
    let asked = c.in-Ok.asked.items in (
      record { shared = c.type_bounds.sync-R.shared },
      (
        record { shared = c.type_bounds.sync-G.shared },
        rw c.as_slice.ensures.value
            (may_be_asked holds c.args.problem.now fixings asked
            (rw c.as_ref.ensures.value at c.in-Ok.ensures.ok)),
      ),
    )

pub returns-in-Ok-clause-ok : goal.returns-in-Ok-clause-ok
returns-in-Ok-clause-ok g c = IfOk-weaker c.solve.result _ _ (λ answer h. record {
  asked = c.in-Ok.asked.items;
  lines = rw c.as_ref.ensures.value at c.in-Ok.ensures.ok;
  solved = rw (← c.as_slice.ensures.value) h;
}) c.solve.ensures.ok

pub returns-in-Ok-clause-no : goal.returns-in-Ok-clause-no
returns-in-Ok-clause-no g c = IfErr-weaker c.solve.result _ _
    (λ cause is. want_stops _ _ _ _ c.args.task.now.fixings cause is) c.solve.ensures.no

pub returns-in-Ok-clause-reads : goal.returns-in-Ok-clause-reads
returns-in-Ok-clause-reads g c =
    reads_well _ _ _ _ _ (λ e. e) (rw c.as_ref.ensures.value at c.in-Ok.ensures.reads)

pub returns-in-Err-clause-no : goal.returns-in-Err-clause-no
returns-in-Err-clause-no g c = rw c.as_ref.ensures.value at c.in-Err.ensures.no

pub returns-in-Err-clause-reads : goal.returns-in-Err-clause-reads
returns-in-Err-clause-reads g c = rw c.as_ref.ensures.value at c.in-Err.ensures.reads
