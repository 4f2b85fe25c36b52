use Rattle.fixing_lines.proofs.Spaces.{no_space_no_lead, no_field_no_lead}
use Rattle.fixing_lines.proofs.fields.leading_number.Goals as goal

pub returns-in_err-space : goal.returns-in_err-space
returns-in_err-space c = rw c.from_residual.ensures (no_space_no_lead c.args.bytes.now c.in_err-space.ensures)

pub returns-in_err-field : goal.returns-in_err-field
returns-in_err-field c =
    rw c.from_residual-in_err-field.ensures
    (no_field_no_lead c.args.bytes.now c.in_ok-space.space c.in_ok-space.ensures.0 c.in_ok-space.ensures.1 c.in_ok-space.ensures.2 c.in_err-field.ensures)
