use Rattle.std.proofs.lemmas.Option.{IfSome_then}
use Rattle.std.proofs.lemmas.Result.{IfOk-weaker}
use Rattle.near_plans.proofs.Finding.{beside_at, beside_beside, found_beside}
use Rattle.near_plans.proofs.ahead.first_plan.Goals as goal

pub returns-clause-plan : goal.returns-clause-plan
returns-clause-plan c =
    let root = c.args.graph.now in
    let here = c.rewind.new.graph in
    let back = beside_at c.plan_of.new.graph here _ c.rewind.ensures in
    let beside = beside_beside root c.plan_of.new.graph here c.plan_of.ensures.beside back in
    IfOk-weaker c.plan_towards-2.result _ _
    (λ first found. IfSome_then first.base found (λ base. found_beside root here beside base.plan)) c.plan_towards-2.ensures.plan
