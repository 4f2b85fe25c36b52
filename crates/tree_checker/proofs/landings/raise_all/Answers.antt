use Rattle.tree_checker.specs.KnownNodes.{node_here}
use Rattle.tree_checker.proofs.Landed.{raised_more, not_raised}
use Rattle.tree_checker.proofs.landings.raise_all.Goals as goal

pub returns-in-None : goal.returns-in-None
returns-in-None c =
    not_raised (node_here c.args.here) c.args.train c.args.walks.now c.loop-walk.walk-index c.walk-item.result c.as_slice.result.now c.loop-walk-test.true c.walk-item.is c.as_slice.ensures c.in-None.ensures

pub loop-walk-preserved : goal.loop-walk-preserved
loop-walk-preserved c =
    raised_more (node_here c.args.here) c.args.train c.args.walks.now c.loop-walk.walk-index c.walk-item.result c.as_slice.result.now c.in-Some.landing c.args.bases.now.items c.loop-walk.bases.items
    c.raise.new.bases.items c.loop-walk-test.true c.walk-item.is c.as_slice.ensures c.loop-walk.invariant c.in-Some.ensures c.raise.ensures
