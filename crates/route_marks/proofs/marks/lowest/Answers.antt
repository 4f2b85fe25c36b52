use Rattle.std.proofs.Common.{refl}
use Rattle.route_marks.proofs.Relaxing.{lowest_more}
use Rattle.route_marks.proofs.marks.lowest.Goals as goal

pub loop-next-preserved : goal.loop-next-preserved
loop-next-preserved c = lowest_more c.args.places.now c.args.row.now c.args.reach c.loop-next.next-index c.loop-next.least _ c.min-least.result c.loop-next-test.true refl c.min-least.ensures c.loop-next.invariant
