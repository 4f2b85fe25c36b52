use Rattle.std.proofs.Common.{get_or, arith}
use Rattle.incremental_paths.proofs.Members.{joined}
use Rattle.incremental_paths.proofs.Tracing.{traced_more, comes_back, step_up}
use Rattle.incremental_paths.proofs.back.way_back.Goals as goal

pub marked_before-at-requires-clause-some : goal.marked_before-at-requires-clause-some
marked_before-at-requires-clause-some c =
    let loop = c.loop-at.invariant in
    comes_back c.args.arcs.now c.args.order.now c.requires.rising c.args.from (get_or c.args.order.now c.args.to 0) c.args.marks.now c.requires.marks c.loop-at.at loop.marked loop.below c.loop-at-test.true

pub loop-at-preserved : goal.loop-at-preserved
loop-at-preserved c =
    let loop = c.loop-at.invariant in
    let arcs = c.args.arcs.now in
    let u = c.marked_before-at.result in
    let h = c.marked_before-at.ensures.marked in
    let j = joined arcs h.1 u c.loop-at.at (h.0, h.2, h.3) h.4 h.5 in
    let up = step_up arcs c.args.order.now c.requires.rising c.args.from (get_or c.args.order.now c.args.to 0) c.args.marks.now c.requires.marks u c.loop-at.at j in
    rw c.in_ok-push-2.ensures.items (record {
      within = omega (arith, c.marked_before-at.ensures.within, c.requires.sizes);
      below = omega (arith, up, loop.below);
      marked = h.6;
      traced = traced_more arcs c.args.to c.loop-at.at u c.loop-at.way.items loop.traced j;
    })
