use Rattle.disp_laws.proofs.LeavesDecided.{leaf_or_not}
use Rattle.disp_laws.proofs.laws.leaves_are_decided.Goals as goal

pub returns : goal.returns
returns c = leaf_or_not
