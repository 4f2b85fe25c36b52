use Rattle.open_nodes.proofs.Seeking.{least_of_all}
use Rattle.open_nodes.proofs.blocks.Blocks.least_bound.Goals as goal

pub returns : goal.returns
returns c = λ places edition are. least_of_all places c.args.self.now.alive are.alive c.least.result c.least.ensures
