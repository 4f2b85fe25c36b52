use Rattle.solution_text.proofs.ReadBack.{read_again}
use Rattle.solution_text.proofs.laws.written_is_read.Goals as goal

pub returns : goal.returns
returns c = read_again
