use Rattle.disp_laws.proofs.Composed.{arcs_compose, walk_skips}
use Rattle.disp_laws.proofs.laws.train_arcs_compose.Goals as goal

pub returns : goal.returns
returns c = record { sums = arcs_compose; walks = walk_skips }
