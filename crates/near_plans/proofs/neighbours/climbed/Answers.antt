use Rattle.near_plans.proofs.Finding.{beside_itself, beside_beside}
use Rattle.near_plans.proofs.neighbours.climbed.Goals as goal

pub loop-init : goal.loop-init
loop-init c = (beside_itself c.args.graph.now, c.requires.plan)

pub loop-preserved : goal.loop-preserved
loop-preserved c =
    let inv = c.loop.invariant in
    (beside_beside c.args.graph.now c.loop.graph c.try_region.new.graph inv.0 c.try_region.ensures.beside, c.try_region.ensures.plan c.args.graph.now inv.0 inv.1)

pub returns-then-is_over-clause-plan : goal.returns-then-is_over-clause-plan
returns-then-is_over-clause-plan c = c.loop.invariant.1

pub returns-clause-plan : goal.returns-clause-plan
returns-clause-plan c = c.loop.invariant.1
