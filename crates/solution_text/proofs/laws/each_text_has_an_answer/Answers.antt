use Rattle.solution_text.proofs.Answered.{has_answer}
use Rattle.solution_text.proofs.laws.each_text_has_an_answer.Goals as goal

pub returns : goal.returns
returns c = has_answer
