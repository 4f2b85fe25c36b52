use Rattle.std.proofs.Common.{arith, sym, ◌∙◌}
use Rattle.fixing_lines.proofs.Numbers.{unread_is_no_field, read_number_is_field}
use Rattle.fixing_lines.proofs.fields.number.Goals as goal

pub returns-in_err-number : goal.returns-in_err-number
returns-in_err-number c =
    rw c.from_residual.ensures
    (unread_is_no_field c.args.field.now c.from.result c.read_number.result (omega (arith, c.from.ensures)) c.read_number.ensures.not_number c.read_number.ensures.too_large (sym c.in_err-number.was ∙ c.ok.ensures.value))

pub returns : goal.returns
returns c =
    read_number_is_field c.args.field.now c.from.result c.in_ok-number.number c.read_number.result c.try_from.result c.ok-2.result (omega (arith, c.from.ensures)) c.read_number.ensures.ok (sym c.in_ok-number.was ∙ c.ok.ensures.value)
    c.try_from.ensures c.ok-2.ensures.value
