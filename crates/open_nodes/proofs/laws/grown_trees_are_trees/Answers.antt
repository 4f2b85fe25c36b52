use Rattle.open_nodes.proofs.Planting.{tree_grows}
use Rattle.open_nodes.proofs.laws.grown_trees_are_trees.Goals as goal

pub returns : goal.returns
returns c = tree_grows
