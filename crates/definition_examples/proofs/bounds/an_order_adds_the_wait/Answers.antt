use Rattle.definition_examples.proofs.TwoBounds.{first_is_24, second_is_18}
use Rattle.definition_examples.proofs.bounds.an_order_adds_the_wait.Goals as goal

pub returns-clause-first : goal.returns-clause-first
returns-clause-first c = first_is_24

pub returns-clause-second : goal.returns-clause-second
returns-clause-second c = second_is_18
