use Rattle.definition_examples.proofs.TwoBounds.{first_is_27, second_is_21, only_27, only_21}
use Rattle.definition_examples.proofs.bounds.a_release_time_adds_to_the_wait.Goals as goal

pub returns-clause-first : goal.returns-clause-first
returns-clause-first c = first_is_27

pub returns-clause-second : goal.returns-clause-second
returns-clause-second c = second_is_21

pub returns-clause-only_first : goal.returns-clause-only_first
returns-clause-only_first c = only_27

pub returns-clause-only_second : goal.returns-clause-only_second
returns-clause-only_second c = only_21
