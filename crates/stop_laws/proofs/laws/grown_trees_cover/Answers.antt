use Rattle.stop_laws.proofs.Covering.{tree_covers}
use Rattle.stop_laws.proofs.laws.grown_trees_cover.Goals as goal

pub returns : goal.returns
returns c = tree_covers
