use Rattle.std.proofs.Common.{refl}
use Rattle.share_bound.proofs.Stepping.{lowest_more}
use Rattle.share_bound.proofs.least.lowest.Goals as goal

pub loop-next-preserved : goal.loop-next-preserved
loop-next-preserved c = lowest_more c.args.costs.now c.args.row.now c.args.most
    c.loop-next.next-index c.loop-next.least _ c.min-least.result c.loop-next-test.true refl
    c.min-least.ensures c.loop-next.invariant
