use Rattle.open_nodes.proofs.Accepting.{tree_accepted}
use Rattle.open_nodes.proofs.laws.ripe_trees_are_accepted.Goals as goal

pub returns : goal.returns
returns c = tree_accepted
