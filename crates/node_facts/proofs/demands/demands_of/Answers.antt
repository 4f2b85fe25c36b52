use Rattle.std.specs.Prelude.{All}
use Rattle.disp_model.specs.Routes.{AgreesWithFixing, AgreesWithDecision}
use Rattle.node_facts.specs.Demands.{decision_demand}
use Rattle.node_facts.proofs.Demanding.{decision_asks, asks_first, asks_more, asks_whole}
use Rattle.node_facts.proofs.demands.demands_of.Goals as goal

pub loop-decision-init : goal.loop-decision-init
loop-decision-init c = asks_first (λ route. All (AgreesWithFixing c.args.train route) c.args.fixings.now) (AgreesWithDecision c.args.train) c.in_ok-demands.demands.items c.in_ok-demands.ensures

pub loop-decision-preserved : goal.loop-decision-preserved
loop-decision-preserved c =
    let t = c.args.train in
    rw c.in_ok-add.ensures
    (asks_more (λ route. All (AgreesWithFixing t route) c.args.fixings.now) (AgreesWithDecision t) (decision_demand t) c.args.decisions.now c.loop-decision.decision-index _ c.demand_of_decision.result c.loop-decision.demands.items c.loop-decision-test.true
    (decision_asks t) c.demand_of_decision.ensures c.loop-decision.invariant)

pub returns : goal.returns
returns c =
    let t = c.args.train in
    asks_whole (λ route. All (AgreesWithFixing t route) c.args.fixings.now) (AgreesWithDecision t) c.args.decisions.now c.loop-decision.decision-index c.loop-decision.demands.items c.loop-decision-test.false c.loop-decision.invariant
