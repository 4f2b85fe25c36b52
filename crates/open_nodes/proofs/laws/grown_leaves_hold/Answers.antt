use Rattle.open_nodes.proofs.HoldingOn.{grown_hold}
use Rattle.open_nodes.proofs.laws.grown_leaves_hold.Goals as goal

pub returns : goal.returns
returns c = grown_hold
