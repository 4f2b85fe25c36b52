-- what the trains so far cost
use Rattle.disp_model.specs.Shares.{SharesCost}
use Rattle.node_facts.proofs.AddedUp.{AreAddedUp}
use Rattle.tree_checker.specs.KnownNodes.{node_here}
use Rattle.tree_checker.proofs.shares.shares_cost.Given as goal

abbrev pub invariant-loop-shown : goal.invariant-loop-shown
invariant-loop-shown l = AreAddedUp (SharesCost (node_here l.here)) l.listed l.shown-index l.total
