use Rattle.std.proofs.Common.{◌≡◌, replicate, rules}
use Rattle.route_sets.specs.Asks.{free}
use Rattle.route_sets.proofs.Asking.{asks_all}
use Rattle.route_sets.proofs.asks.asks_of.Goals as goal

pub returns : goal.returns
returns c =
    let none : c.in_ok-asks.asks.items ≡ replicate c.args.count free = search rules in
    asks_all c.args.count c.args.train c.args.fixings.now c.args.decisions.now c.in_ok-asks.asks.items c.add_fixings.new.asks.items c.add_decisions.new.asks.items none c.add_fixings.ensures c.add_decisions.ensures
