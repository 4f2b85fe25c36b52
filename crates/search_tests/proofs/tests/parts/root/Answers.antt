use Rattle.event_graph.proofs.Rooting.{of_no_changes}
use Rattle.search_tests.proofs.tests.parts.root.Goals as goal

pub graph_of-requires : goal.graph_of-requires
graph_of-requires g c = of_no_changes c.args.problem.now
