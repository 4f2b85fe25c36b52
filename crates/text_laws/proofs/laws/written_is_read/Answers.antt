use Rattle.text_laws.proofs.Whole.{read_again, line_again}
use Rattle.text_laws.proofs.laws.written_is_read.Goals as goal

pub returns : goal.returns
returns c = record { text = read_again; line = line_again }
