use Rattle.definition_examples.proofs.JudgedTrees.{one_component_twice}
use Rattle.definition_examples.proofs.trees.a_component_counts_once.Goals as goal

pub returns : goal.returns
returns c = one_component_twice
