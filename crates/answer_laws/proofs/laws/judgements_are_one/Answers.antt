use Rattle.answer_laws.proofs.Answered.{answers_agree}
use Rattle.answer_laws.proofs.laws.judgements_are_one.Goals as goal

pub returns : goal.returns
returns c = answers_agree
