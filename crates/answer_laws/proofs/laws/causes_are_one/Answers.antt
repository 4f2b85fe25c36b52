use Rattle.answer_laws.proofs.Answered.{causes_agree}
use Rattle.answer_laws.proofs.laws.causes_are_one.Goals as goal

pub returns : goal.returns
returns c = causes_agree
