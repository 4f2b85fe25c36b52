use Rattle.definition_examples.proofs.JudgedPlans.{a_swap_is_not_valid}
use Rattle.definition_examples.proofs.plans.resources_are_not_swapped_at_once.Goals as goal

pub returns : goal.returns
returns c = a_swap_is_not_valid
