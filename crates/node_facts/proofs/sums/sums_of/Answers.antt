use Rattle.std.proofs.Common.{arith}
use Rattle.node_facts.proofs.Summing.{summed_more, summed_all, within_order}
use Rattle.node_facts.proofs.sums.sums_of.Goals as goal

pub bounds-train-at : goal.bounds-train-at
bounds-train-at c = within_order c.args.train.now c.args.order.now c.loop-number.number-index c.requires.order c.loop-number-test.true

pub index_mut-requires : goal.index_mut-requires
index_mut-requires c = omega (arith, c.loop-number.invariant.long, within_order c.args.train.now c.args.order.now c.loop-number.number-index c.requires.order c.loop-number-test.true)

pub loop-number-preserved : goal.loop-number-preserved
loop-number-preserved c =
    summed_more c.args.train.now c.args.order.now c.args.places.now c.args.demands.now c.loop-number.number-index c.loop-number.sums.items c.deref.result.now c.index-train-at.result c.least_from-sum.result c.requires.order c.loop-number-test.true
    c.loop-number.invariant c.deref.ensures.value c.index-train-at.is c.least_from-sum.ensures.least c.least_from-sum.ensures.rises

pub returns-clause-sums : goal.returns-clause-sums
returns-clause-sums c = summed_all c.args.train.now c.args.order.now c.args.places.now c.args.demands.now c.loop-number.number-index c.loop-number.sums.items c.requires.order c.loop-number-test.false c.loop-number.invariant
