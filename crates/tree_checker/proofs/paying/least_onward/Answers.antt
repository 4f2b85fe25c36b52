use Rattle.node_facts.proofs.Summing.{onward_more, onward_all}
use Rattle.tree_checker.proofs.paying.least_onward.Goals as goal

pub loop-next-preserved : goal.loop-next-preserved
loop-next-preserved c =
    rw c.lesser-least.ensures
    (onward_more c.args.known.now.places.items c.args.known.now.demands.items c.args.costs.now c.args.op c.args.nexts.now c.loop-next.next-index _ c.loop-next.least c.onward-other.result c.loop-next-test.true c.onward-other.ensures c.loop-next.invariant)

pub returns : goal.returns
returns c =
    onward_all c.args.known.now.places.items c.args.known.now.demands.items c.args.costs.now c.args.op c.args.nexts.now c.loop-next.next-index c.loop-next.least c.loop-next-test.false c.loop-next.invariant
