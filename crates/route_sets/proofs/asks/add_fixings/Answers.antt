use Rattle.std.proofs.Common.{◌≡◌, List, take, subst, arith}
use Rattle.std.specs.Prelude.{All}
use Rattle.std.proofs.lemmas.List.{take_all}
use Rattle.disp_model.specs.declared.fixing.Fixing.{Fixing}
use Rattle.disp_model.specs.Routes.{AgreesWithFixing}
use Rattle.route_sets.specs.Asks.{demand_of_fixing, TakesAsks}
use Rattle.route_sets.proofs.Asking.{fixing_asks, takes_more}
use Rattle.route_sets.proofs.asks.add_fixings.Goals as goal

pub loop-fixing-preserved : goal.loop-fixing-preserved
loop-fixing-preserved c =
    let xs = c.args.fixings.now in
    let i = c.loop-fixing.fixing-index in
    takes_more (AgreesWithFixing c.args.train) (demand_of_fixing c.args.train) xs i _ c.demand_of_fixing.result c.args.asks.now.items c.loop-fixing.asks.items c.add.new.asks.items c.loop-fixing-test.true
    (fixing_asks c.args.train) c.demand_of_fixing.ensures c.loop-fixing.invariant c.add.ensures

pub returns : goal.returns
returns c =
    let xs = c.args.fixings.now in
    let whole : take c.loop-fixing.fixing-index xs ≡ xs = take_all c.loop-fixing.fixing-index xs (omega (arith, c.loop-fixing-test.false)) in
    subst (λ (l : List Fixing). TakesAsks (λ route. All (AgreesWithFixing c.args.train route) l) c.args.asks.now.items c.loop-fixing.asks.items) whole c.loop-fixing.invariant
