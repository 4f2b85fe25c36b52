use Rattle.tree_checker.proofs.Paid.{cost_by_none}
use Rattle.tree_checker.proofs.paying.cost_from.Goals as goal

pub returns-in-None : goal.returns-in-None
returns-in-None c =
    cost_by_none c.args.operation.now c.args.known.now.places.items c.args.known.now.demands.items c.args.costs.now c.args.op c.args.price c.as_slice-nexts.result.now c.as_slice-nexts.ensures c.if-nexts-eq0.false c.in-None.ensures
