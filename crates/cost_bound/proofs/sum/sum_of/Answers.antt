use Rattle.disp_model.specs.WellFormed.{horizon}
use Rattle.cost_bound.proofs.Summing.{add_up_more, most_more}
use Rattle.cost_bound.proofs.sum.sum_of.Goals as goal

pub loop-component-preserved : goal.loop-component-preserved
loop-component-preserved c =
    let node = c.args.graph.now in
    let so_far = c.loop-component.invariant in
    record {
      adds = add_up_more node c.args.components.now c.loop-component.component-index _ c.loop-component.sum c.added-sum.result c.loop-component-test.true so_far.adds c.added-sum.ensures.adds;
      most = most_more (horizon node.problem.trains) c.args.components.now c.loop-component.component-index _ c.loop-component.sum c.added-sum.result c.loop-component-test.true so_far.most c.added-sum.ensures.most;
    }
