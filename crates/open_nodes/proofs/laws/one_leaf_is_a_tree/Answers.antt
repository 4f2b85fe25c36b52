use Rattle.open_nodes.proofs.TheFirst.{one_leaf_tree}
use Rattle.open_nodes.proofs.laws.one_leaf_is_a_tree.Goals as goal

pub returns : goal.returns
returns c = one_leaf_tree
