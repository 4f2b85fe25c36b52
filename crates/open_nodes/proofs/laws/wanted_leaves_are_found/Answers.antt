use Rattle.open_nodes.proofs.TheFirst.{none_wanted}
use Rattle.open_nodes.proofs.laws.wanted_leaves_are_found.Goals as goal

pub returns : goal.returns
returns c = none_wanted
