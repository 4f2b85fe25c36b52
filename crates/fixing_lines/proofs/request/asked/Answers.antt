use Rattle.fixing_lines.proofs.Words.{no_change}
use Rattle.fixing_lines.proofs.request.asked.Goals as goal

pub returns-in_err-number : goal.returns-in_err-number
returns-in_err-number c =
    rw c.from_residual.ensures
    (no_change c.args.line.now c.in_default.ensures c.in_default-fields_after.ensures
    c.in_default-fields_after-2.ensures c.in_err-number.ensures)
