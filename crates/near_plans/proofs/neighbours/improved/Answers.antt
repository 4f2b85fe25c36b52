use Rattle.std.proofs.lemmas.Result.{IfOk-weaker}
use Rattle.near_plans.proofs.Finding.{beside_at, found_beside, found_there}
use Rattle.near_plans.proofs.neighbours.improved.Goals as goal

pub climbed-requires-clause-plan : goal.climbed-requires-clause-plan
climbed-requires-clause-plan c = found_there c.args.graph.now c.rewind.new.graph (beside_at c.args.graph.now c.rewind.new.graph _ c.rewind.ensures) c.args.base.plan c.requires.plan

pub returns-clause-plan : goal.returns-clause-plan
returns-clause-plan c =
    IfOk-weaker c.climbed.result _ _
    (λ best. found_beside c.args.graph.now c.rewind.new.graph (beside_at c.args.graph.now c.rewind.new.graph _ c.rewind.ensures) best.plan) c.climbed.ensures.plan
