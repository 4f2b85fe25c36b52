use Rattle.solution_text.proofs.OneAnswer.{refusals_agree, read_is_not_refused, plans_agree}
use Rattle.solution_text.proofs.laws.answers_exclude_each_other.Goals as goal

pub returns : goal.returns
returns c = record { refusals = refusals_agree; plans = read_is_not_refused; one_plan = plans_agree }
