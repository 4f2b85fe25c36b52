use Rattle.open_nodes.proofs.Seeking.{ripe}
use Rattle.open_nodes.proofs.blocks.Blocks.is_ripe.Goals as goal

pub returns : goal.returns
returns c = λ places edition are. ripe places c.args.best c.args.self.now.alive are.alive c.is_none.result c.find_below.result c.is_none.ensures c.find_below.ensures
