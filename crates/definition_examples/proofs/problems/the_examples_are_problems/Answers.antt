use Rattle.definition_examples.proofs.WellMade.{two_without_release, two_with_release, swapping_trains, forked_train, costly_branches, windowed_train}
use Rattle.definition_examples.proofs.problems.the_examples_are_problems.Goals as goal

pub returns-clause-two : goal.returns-clause-two
returns-clause-two c = two_without_release

pub returns-clause-released : goal.returns-clause-released
returns-clause-released c = two_with_release

pub returns-clause-swapping : goal.returns-clause-swapping
returns-clause-swapping c = swapping_trains

pub returns-clause-forked : goal.returns-clause-forked
returns-clause-forked c = forked_train

pub returns-clause-costly : goal.returns-clause-costly
returns-clause-costly c = costly_branches

pub returns-clause-windowed : goal.returns-clause-windowed
returns-clause-windowed c = windowed_train
