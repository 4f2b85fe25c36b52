use Rattle.disp_model.specs.Node.{node_at}
use Rattle.tree_checker.proofs.Renewing.{renewed_more}
use Rattle.tree_checker.proofs.descent.renew.Goals as goal

pub loop-train-preserved : goal.loop-train-preserved
loop-train-preserved c =
    renewed_more (node_at c.args.problem.now c.args.fixings.now c.args.decisions.now) c.args.changed.now c.loop-train.train-index _ c.args.trains.now c.loop-train.trains c.renew_one.new.trains c.loop-train-test.true c.in_ok-renew_one.ensures
    c.loop-train.invariant
