use Rattle.cost_bound.proofs.Bounding.{distinct_by_order, bound_reaches, bound_fits}
use Rattle.cost_bound.proofs.walks.bound.Goals as goal

pub returns-clause-distinct : goal.returns-clause-distinct
returns-clause-distinct c = distinct_by_order c.loop-place.bound.walks c.loop-place.invariant.order

pub returns-clause-leaf : goal.returns-clause-leaf
returns-clause-leaf c least enough = bound_reaches c.args.graph.now c.loop-place.place c.loop-place.bound least c.loop-place.invariant enough

pub returns-clause-fits : goal.returns-clause-fits
returns-clause-fits c = bound_fits c.args.graph.now c.loop-place.place c.loop-place.bound c.loop-place.invariant
