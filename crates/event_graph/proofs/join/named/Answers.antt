use Rattle.event_graph.proofs.Naming.{named_more}
use Rattle.event_graph.proofs.join.named.Goals as goal

pub loop-number-preserved : goal.loop-number-preserved
loop-number-preserved c = rw c.in_ok-push.ensures.ok (named_more c.args.ops.now c.loop-number.named c.args.numbers.now c.loop-number.number-index _ c.loop-number-test.true c.requires c.loop-number.invariant)
