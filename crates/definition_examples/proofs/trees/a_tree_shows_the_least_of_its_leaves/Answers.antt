use Rattle.definition_examples.proofs.JudgedTrees.{accepted, too_much}
use Rattle.definition_examples.proofs.trees.a_tree_shows_the_least_of_its_leaves.Goals as goal

pub returns-clause-accepted : goal.returns-clause-accepted
returns-clause-accepted c = accepted

pub returns-clause-too_much : goal.returns-clause-too_much
returns-clause-too_much c = too_much
