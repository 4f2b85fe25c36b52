use Rattle.open_nodes.proofs.Touching.{takes_tree, back_tree, fallen_tree, newer_tree}
use Rattle.open_nodes.proofs.laws.trees_stay_trees.Goals as goal

pub returns : goal.returns
returns c = record { takes = takes_tree; back = back_tree; falls = fallen_tree; newer = newer_tree }
