use Rattle.std.proofs.Common.{◌≡◌, List, take, subst, arith}
use Rattle.std.specs.Prelude.{All}
use Rattle.std.proofs.lemmas.List.{take_all}
use Rattle.disp_model.specs.declared.decision.Decision.{Decision}
use Rattle.disp_model.specs.Routes.{AgreesWithDecision}
use Rattle.route_sets.specs.Asks.{demand_of_decision, TakesAsks}
use Rattle.route_sets.proofs.Asking.{decision_asks, takes_more}
use Rattle.route_sets.proofs.asks.add_decisions.Goals as goal

pub loop-decision-preserved : goal.loop-decision-preserved
loop-decision-preserved c =
    let xs = c.args.decisions.now in
    let i = c.loop-decision.decision-index in
    takes_more (AgreesWithDecision c.args.train) (demand_of_decision c.args.train) xs i _ c.demand_of_decision.result c.args.asks.now.items c.loop-decision.asks.items c.add.new.asks.items c.loop-decision-test.true
    (decision_asks c.args.train) c.demand_of_decision.ensures c.loop-decision.invariant c.add.ensures

pub returns : goal.returns
returns c =
    let xs = c.args.decisions.now in
    let whole : take c.loop-decision.decision-index xs ≡ xs = take_all c.loop-decision.decision-index xs (omega (arith, c.loop-decision-test.false)) in
    subst (λ (l : List Decision). TakesAsks (λ route. All (AgreesWithDecision c.args.train route) l) c.args.asks.now.items c.loop-decision.asks.items) whole c.loop-decision.invariant
