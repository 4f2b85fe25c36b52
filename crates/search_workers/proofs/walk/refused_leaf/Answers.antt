use Rattle.node_leaves.proofs.Showing.{cycle_leaf}
use Rattle.search_workers.proofs.walk.refused_leaf.Goals as goal

pub returns-in-Cycle : goal.returns-in-Cycle
returns-in-Cycle c node is = cycle_leaf node c.in-Cycle.nodes (rw c.in-Cycle.is at is).1
