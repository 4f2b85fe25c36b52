use Rattle.std.proofs.Common.{Some}
use Rattle.std.proofs.lemmas.Bool.Decides.{Decides-eqb}
use Rattle.std.proofs.lemmas.Slice.Eq.{strip_prefix_is}
use Rattle.fixing_lines.proofs.Words.{no_word, behind_word}
use Rattle.fixing_lines.proofs.fields.fields_after.Goals as goal

pub returns-in_err-fields : goal.returns-in_err-fields
returns-in_err-fields c = rw c.from_residual.ensures (no_word c.args.word.now c.args.line.now c.in_err-fields.ensures.cases)

pub returns : goal.returns
returns c =
    behind_word c.args.word.now c.args.line.now c.in_ok-fields.fields.now c.three_fields.result
    (strip_prefix_is Decides-eqb c.args.line.now c.args.word.now (Some c.in_ok-fields.fields) c.in_ok-fields.ensures.cases) c.three_fields.ensures
