use Rattle.tree_replay.proofs.Telling.{one_leaf_replayed}
use Rattle.tree_replay.proofs.laws.one_leaf_is_replayed.Goals as goal

pub returns : goal.returns
returns c = one_leaf_replayed
