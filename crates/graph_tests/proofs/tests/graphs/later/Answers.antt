use Rattle.graph_tests.proofs.Later.{later_edition}
use Rattle.graph_tests.proofs.tests.graphs.later.Goals as goal

pub new-requires : goal.new-requires
new-requires g c = record { edition = later_edition c.args.problem.now c.requires }
