use Rattle.displib_reader.proofs.Answered.{has_answer}
use Rattle.displib_reader.proofs.laws.each_text_has_an_answer.Goals as goal

pub returns : goal.returns
returns c = has_answer
