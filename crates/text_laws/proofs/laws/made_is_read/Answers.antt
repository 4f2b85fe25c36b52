use Rattle.text_laws.proofs.Made.{made_again, made_line}
use Rattle.text_laws.proofs.laws.made_is_read.Goals as goal

pub returns : goal.returns
returns c = record { text = made_again; line = made_line }
