use Rattle.definition_examples.proofs.Answered.{a_start_is_accepted}
use Rattle.definition_examples.proofs.replies.a_start_is_fixed_once.Goals as goal

pub returns-clause-accepted : goal.returns-clause-accepted
returns-clause-accepted c = a_start_is_accepted
