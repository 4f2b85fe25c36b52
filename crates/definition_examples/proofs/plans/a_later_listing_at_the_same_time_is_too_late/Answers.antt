use Rattle.definition_examples.proofs.JudgedPlans.{early_is_not_valid}
use Rattle.definition_examples.proofs.plans.a_later_listing_at_the_same_time_is_too_late.Goals as goal

pub returns : goal.returns
returns c = early_is_not_valid
