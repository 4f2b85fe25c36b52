use Rattle.std.specs.Prelude.{All}
use Rattle.disp_model.specs.Routes.{AgreesWithFixing}
use Rattle.node_facts.specs.Demands.{fixing_demand}
use Rattle.node_facts.proofs.Demanding.{fixing_asks, asks_more, asks_whole, asks_alone}
use Rattle.node_facts.proofs.demands.demands_of_fixings.Goals as goal

pub loop-fixing-preserved : goal.loop-fixing-preserved
loop-fixing-preserved c =
    let t = c.args.train in
    rw c.in_ok-add.ensures
    (asks_more (λ route. Unit {0}) (AgreesWithFixing t) (fixing_demand t) c.args.fixings.now c.loop-fixing.fixing-index _ c.demand_of_fixing.result c.loop-fixing.demands.items c.loop-fixing-test.true
    (fixing_asks t) c.demand_of_fixing.ensures c.loop-fixing.invariant)

pub returns : goal.returns
returns c =
    let t = c.args.train in
    asks_alone (λ route. All (AgreesWithFixing t route) c.args.fixings.now) c.loop-fixing.demands.items
    (asks_whole (λ route. Unit {0}) (AgreesWithFixing t) c.args.fixings.now c.loop-fixing.fixing-index c.loop-fixing.demands.items c.loop-fixing-test.false c.loop-fixing.invariant)
