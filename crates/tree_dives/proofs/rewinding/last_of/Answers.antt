use Rattle.tree_dives.proofs.Returning.{with_last}
use Rattle.tree_dives.proofs.rewinding.last_of.Goals as goal

pub returns : goal.returns
returns c = rw c.decisions-decisions.ensures (with_last c.args.graph.now _ c.requires)
