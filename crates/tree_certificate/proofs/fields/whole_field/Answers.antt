use Rattle.tree_certificate.proofs.Numbers.{is_error, reads_number, reads_none, reads_above}
use Rattle.tree_certificate.proofs.fields.whole_field.Goals as goal

pub returns-in-Ok-clause-gives : goal.returns-in-Ok-clause-gives
returns-in-Ok-clause-gives c = rw (← c.from.ensures) (reads_number c.args.left _ c.args.field.now c.in-Ok.number c.in-Ok.ensures.ok)

pub returns-in-Err-NotNumber-clause-gives : goal.returns-in-Err-NotNumber-clause-gives
returns-in-Err-NotNumber-clause-gives c = reads_none c.args.left c.args.most c.args.field.now (c.in-Err-NotNumber.ensures.not_number.0 (is_error _ _ c.in-Err-NotNumber.field-0-is))

pub returns-in-Err-TooLarge-clause-gives : goal.returns-in-Err-TooLarge-clause-gives
returns-in-Err-TooLarge-clause-gives c = rw (← c.from.ensures) (reads_above c.args.left _ c.args.field.now (c.in-Err-TooLarge.ensures.too_large.0 (is_error _ _ c.in-Err-TooLarge.field-0-is)))
