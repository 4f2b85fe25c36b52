use Rattle.std.proofs.Common.{Some}
use Rattle.std.proofs.lemmas.Bool.Decides.{Decides-eqb}
use Rattle.std.proofs.lemmas.Slice.Eq.{strip_prefix_is}
use Rattle.fixing_lines.proofs.Words.{no_word_no_number, number_behind_word}
use Rattle.fixing_lines.proofs.fields.number_after.Goals as goal

pub returns-in_err-field : goal.returns-in_err-field
returns-in_err-field c =
    rw c.from_residual.ensures (no_word_no_number c.args.word.now c.args.line.now c.in_err-field.ensures.cases)

pub returns : goal.returns
returns c =
    number_behind_word c.args.word.now c.args.line.now c.in_ok-field.field.now c.number.result
    (strip_prefix_is Decides-eqb c.args.line.now c.args.word.now (Some c.in_ok-field.field) c.in_ok-field.ensures.cases)
    c.number.ensures
