use Rattle.tree_checker.specs.KnownNodes.{node_here}
use Rattle.tree_checker.proofs.Enough.{enough_is}
use Rattle.tree_checker.proofs.costs.cost_enough.Goals as goal

pub returns-in-Some : goal.returns-in-Some
returns-in-Some c =
    enough_is (node_here c.args.here) c.args.walks.now c.in-Some.bound c.args.cost c.from.result (c.in_ok-have_distinct.ensures.0 c.if-not-branch.false) c.in-Some.ensures c.from.ensures c.ranges.cost.fits
