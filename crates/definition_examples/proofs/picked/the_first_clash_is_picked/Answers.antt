use Rattle.definition_examples.proofs.Picks.{order_is_picked}
use Rattle.definition_examples.proofs.PicksNothing.{nothing_is_picked}
use Rattle.definition_examples.proofs.picked.the_first_clash_is_picked.Goals as goal

pub returns-clause-order : goal.returns-clause-order
returns-clause-order c = order_is_picked

pub returns-clause-none : goal.returns-clause-none
returns-clause-none c = nothing_is_picked
