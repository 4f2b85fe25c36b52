-- what is left of the tree, and of the places; and what is known of the trains
use Rattle.disp_model.specs.Node.{node_at}
use Rattle.node_facts.specs.Orders.{AreKnown}
use Rattle.tree_checker.proofs.Descending.{IsLeft}
use Rattle.tree_checker.proofs.checking.check_tree.Given as goal

abbrev pub invariant-loop-node : goal.invariant-loop-node
invariant-loop-node l = IsLeft l.problem l.fixings l.fn.verdict l.tree l.node l.path l.places.items × AreKnown (node_at l.problem l.fixings l.path) l.trains
