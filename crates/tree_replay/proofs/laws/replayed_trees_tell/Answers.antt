use Rattle.tree_replay.proofs.Telling.{tells_leaves, tells_back, tells_branches}
use Rattle.tree_replay.proofs.laws.replayed_trees_tell.Goals as goal

pub returns : goal.returns
returns c = record { leaves = tells_leaves; back = tells_back; branches = tells_branches }
