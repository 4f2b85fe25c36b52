use Rattle.definition_examples.proofs.JudgedTrees.{late_accepted}
use Rattle.definition_examples.proofs.trees.a_late_walk_closes_a_leaf.Goals as goal

pub returns : goal.returns
returns c = late_accepted
