use Rattle.definition_examples.proofs.JudgedPlans.{at_once_after_a_release_is_not_valid}
use Rattle.definition_examples.proofs.plans.a_release_time_keeps_trains_apart.Goals as goal

pub returns : goal.returns
returns c = at_once_after_a_release_is_not_valid
