use Rattle.answer_laws.proofs.Answered.{searches_agree as agree}
use Rattle.answer_laws.proofs.laws.searches_agree.Goals as goal

pub returns : goal.returns
returns c = agree
