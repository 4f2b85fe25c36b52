use Rattle.share_leaves.proofs.Basing.{low_base}
use Rattle.share_leaves.proofs.listed.walks_to.Goals as goal

pub add-requires-clause-low : goal.add-requires-clause-low
add-requires-clause-low c = low_base c.args.graph.now c.args.train c.loop-number.number
    c.args.bases.now c.requires.low c.loop-number-test.true
