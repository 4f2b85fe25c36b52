use Rattle.displib_reader.proofs.OneAnswer.{refusals_agree, read_is_not_refused, problems_agree}
use Rattle.displib_reader.proofs.laws.answers_exclude_each_other.Goals as goal

pub returns : goal.returns
returns c = record { refusals = refusals_agree; problems = read_is_not_refused; one_problem = problems_agree }
