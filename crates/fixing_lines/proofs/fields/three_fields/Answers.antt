use Rattle.fixing_lines.proofs.Spaces.{no_second, no_third}
use Rattle.fixing_lines.proofs.fields.three_fields.Goals as goal

pub returns-in_err-at_op : goal.returns-in_err-at_op
returns-in_err-at_op c =
    rw c.from_residual-in_err-at_op.ensures (no_second c.args.bytes.now c.in_ok-at_train.others.now c.in_ok-at_train.at_train c.in_ok-at_train.ensures c.in_err-at_op.ensures)

pub returns-in_err-last : goal.returns-in_err-last
returns-in_err-last c =
    rw c.from_residual-in_err-last.ensures
    (no_third c.args.bytes.now c.in_ok-at_train.others.now c.in_ok-at_op.last.now c.in_ok-at_train.at_train c.in_ok-at_op.at_op c.in_ok-at_train.ensures c.in_ok-at_op.ensures c.in_err-last.ensures)
