use Rattle.incremental_paths.proofs.Telling.{tells_none}
use Rattle.incremental_paths.proofs.Spreading.{reached_still, reached_raised}
use Rattle.incremental_paths.proofs.spread.raise_length.Goals as goal

pub spread_node-requires-clause-reached : goal.spread_node-requires-clause-reached
spread_node-requires-clause-reached g c =
    let b = c.requires.before in
    (c.args.lowers.now, reached_raised c.args.lowers.now c.args.node b.0 c.requires.node b.1 c.args.arcs.now c.args.lengths.now b.2 c.if-lengths-node.true, c.requires.fit)

pub returns-then-lengths-node-clause-reached : goal.returns-then-lengths-node-clause-reached
returns-then-lengths-node-clause-reached g c =
    let b = c.requires.before in
    c.spread_node.ensures.reached c.args.lowers.now (reached_raised c.args.lowers.now c.args.node b.0 c.requires.node b.1 c.args.arcs.now c.args.lengths.now b.2 c.if-lengths-node.true)

pub returns-else-lengths-node-clause-reached : goal.returns-else-lengths-node-clause-reached
returns-else-lengths-node-clause-reached g c =
    let b = c.requires.before in
    reached_still c.args.lowers.now c.args.node b.0 c.requires.node b.1 c.args.arcs.now c.args.lengths.now b.2 c.if-lengths-node.false

pub returns-else-lengths-node-clause-tells : goal.returns-else-lengths-node-clause-tells
returns-else-lengths-node-clause-tells g c = tells_none c.args.changes.now c.args.lengths.now
