use Rattle.definition_examples.proofs.TwoBounds.{free_is_14, only_14}
use Rattle.definition_examples.proofs.bounds.undecided_trains_are_bounded_alone.Goals as goal

pub returns-clause-bound : goal.returns-clause-bound
returns-clause-bound c = free_is_14

pub returns-clause-only : goal.returns-clause-only
returns-clause-only c = only_14
