-- The node of what is known at it.
use Rattle.disp_model.specs.Node.{Node, node_at}
use Rattle.tree_checker.specs.declared.known.KnownNode.{KnownNode}

abbrev pub node_here : KnownNode → Node
node_here here = node_at here.problem.now here.fixings.now here.decisions.now
