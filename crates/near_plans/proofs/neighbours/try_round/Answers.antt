use Rattle.near_plans.proofs.Finding.{beside_at, beside_beside, some_found_beside}
use Rattle.near_plans.proofs.neighbours.try_round.Goals as goal

pub returns-clause-plan : goal.returns-clause-plan
returns-clause-plan c =
    λ root beside before.
    let back = beside_beside root c.args.graph.now c.rewind.new.graph beside (beside_at c.args.graph.now c.rewind.new.graph _ c.rewind.ensures) in
    c.keep.ensures root
    (some_found_beside root c.take_over.new.graph (beside_beside root c.rewind.new.graph c.take_over.new.graph back c.take_over.ensures) c.in_ok-outlook.outlook.plan c.in_ok-outlook.ensures.plan) before

pub returns-in_err-nodes-clause-plan : goal.returns-in_err-nodes-clause-plan
returns-in_err-nodes-clause-plan c =
    λ root beside before.
    let back = beside_beside root c.args.graph.now c.rewind.new.graph beside (beside_at c.args.graph.now c.rewind.new.graph _ c.rewind.ensures) in
    c.keep.ensures root
    (some_found_beside root c.take_over.new.graph (beside_beside root c.rewind.new.graph c.take_over.new.graph back c.take_over.ensures) c.in_ok-outlook.outlook.plan c.in_ok-outlook.ensures.plan) before
