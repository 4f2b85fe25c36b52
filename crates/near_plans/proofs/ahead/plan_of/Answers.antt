use Rattle.near_plans.proofs.Finding.{some_found_beside}
use Rattle.near_plans.proofs.ahead.plan_of.Goals as goal

pub returns-clause-plan : goal.returns-clause-plan
returns-clause-plan c =
    c.of_outlook.ensures c.args.graph.now
    (some_found_beside c.args.graph.now c.take_over.new.graph c.take_over.ensures c.in_ok-outlook.outlook.plan c.in_ok-outlook.ensures.plan)
