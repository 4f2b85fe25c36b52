use Rattle.tree_checker.proofs.Entered.{enters_more}
use Rattle.tree_checker.proofs.entering.go_on.Goals as goal

pub loop-next-preserved : goal.loop-next-preserved
loop-next-preserved c =
    enters_more c.args.known.now.places.items c.args.known.now.demands.items c.args.op c.args.time c.args.nexts.now c.loop-next.next-index _ c.args.entered.now.items c.loop-next.entered.items c.step_to.new.entered.items
    c.loop-next-test.true c.loop-next.invariant c.step_to.ensures
