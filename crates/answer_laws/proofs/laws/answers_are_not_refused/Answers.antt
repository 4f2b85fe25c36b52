use Rattle.answer_laws.proofs.Answered.{answer_or_cause}
use Rattle.answer_laws.proofs.laws.answers_are_not_refused.Goals as goal

pub returns : goal.returns
returns c = λ words holds old new answer cause told is stops.
    answer_or_cause words holds old new told answer is cause stops
