use Rattle.event_graph.proofs.Windowed.{closed_step}
use Rattle.event_graph.proofs.opening.closed.Goals as goal

pub loop-n-preserved : goal.loop-n-preserved
loop-n-preserved c =
    closed_step c.args.problem.now c.args.fixings.now c.args.ops.now c.args.windows.now c.loop-n.n _ _ c.loop-n.closed.items c.keep.new.ops.items c.is_closed.result c.requires.ops_are c.requires.windows c.loop-n-test.true c.is_closed.ensures c.in_ok-keep.ensures c.loop-n.invariant
