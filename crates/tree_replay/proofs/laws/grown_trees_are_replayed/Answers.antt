use Rattle.tree_replay.proofs.Replaying.{grown_replayed}
use Rattle.tree_replay.proofs.laws.grown_trees_are_replayed.Goals as goal

pub returns : goal.returns
returns c = grown_replayed
