use Rattle.std.proofs.Common.{ap, Err, ◌∙◌}
use Rattle.std.proofs.lemmas.Result.{err_from_is_err_and}
use Rattle.text_puts.proofs.Counting.{stays}
use Rattle.answered_tasks.proofs.Printed.{part_of_lines, lines_more}
use Rattle.answered_tasks.proofs.print.print.Goals as goal

pub returns-in_err-write-clause-err : goal.returns-in_err-write-clause-err
returns-in_err-write-clause-err g c =
    let p = err_from_is_err_and c.from_residual.result c.from_residual.ensures.1 in
    rw p.1
    (part_of_lines c.in_err-write.field-0.0 _ _ _ c.args.lines.now c.loop-line.line-index c.line-item.result c.loop-line-test.true c.loop-line.invariant.written
    (λ h. rw (← c.line-item.is, ← c.as_slice.ensures) (c.in_err-write.ensures.part (ap Err h)))
    (λ h. c.in_err-write.ensures.memory (ap Err h)))

pub loop-line-preserved : goal.loop-line-preserved
loop-line-preserved g c = record {
  written = lines_more _ _ _ c.args.lines.now c.loop-line.line-index c.line-item.result c.loop-line-test.true c.loop-line.invariant.written (rw (← c.line-item.is, ← c.as_slice.ensures) c.in_ok-write.ensures.ok);
  faults = stays _ _ c.in_ok-write.ensures.counted (λ h. let e = c.in_ok-write.ensures.failed.1 h in absurd cc) ∙ c.loop-line.invariant.faults;
}
