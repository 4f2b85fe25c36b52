use Rattle.node_leaves.proofs.Showing.{cycle_leaf}
use Rattle.node_leaves.proofs.refused.refused_leaf.Goals as goal

pub returns-in-Cycle : goal.returns-in-Cycle
returns-in-Cycle c node is = cycle_leaf node c.in-Cycle.nodes (rw c.in-Cycle.is at is).1
