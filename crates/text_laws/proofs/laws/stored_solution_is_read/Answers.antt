use Rattle.text_laws.proofs.Solutions.{solution_line}
use Rattle.text_laws.proofs.laws.stored_solution_is_read.Goals as goal

pub returns : goal.returns
returns c = solution_line
