use Rattle.std.proofs.Common.{arith}
use Rattle.incremental_paths.proofs.Tracing.{traced_none, traced_more, gives_joined}
use Rattle.incremental_paths.proofs.back.walk_back.Goals as goal

pub loop-before-init : goal.loop-before-init
loop-before-init c =
    rw (c.in_ok-push.ensures.items, c.in_ok-nodes.ensures.items) (record {
      within = c.requires.node;
      traced = (traced_none c.args.arcs.now c.args.node, omega arith);
    })

pub loop-before-preserved : goal.loop-before-preserved
loop-before-preserved c =
    let loop = c.loop-before.invariant in
    let arcs = c.args.arcs.now in
    let before = c.in-Some.before in
    let j = gives_joined c.args.lowers.now arcs c.requires.within c.args.lengths.now c.requires.lengths before c.loop-before.at c.in-Some.ensures.some in
    rw c.in_ok-push-2.ensures.items (record {
      within = c.in-Some.ensures.within;
      traced = (traced_more arcs c.args.node c.loop-before.at before c.loop-before.nodes.items loop.traced.0 j.0, omega (arith, j.1, loop.traced.1));
    })
