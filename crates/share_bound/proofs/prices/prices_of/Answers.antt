use Rattle.std.proofs.Common.{rules, ◌-◌, ◌^◌, length}
use Rattle.problem_facts.proofs.Added.{prices_added}
use Rattle.share_bound.specs.Times.{base_in, reach_in}
use Rattle.share_bound.proofs.prices.prices_of.Goals as goal

pub returns-clause-prices : goal.returns-clause-prices
returns-clause-prices c =
    let reach = reach_in c.args.times.now (base_in c.args.bases.now) in
    prices_added (2 ^ 64 - 1) c.args.train reach c.args.components.now (length c.args.operations.now) c.in_ok-prices.prices.items c.add_components.new.kept.items
    c.add_components.ensures (search rules) (λ sum more d k. search rules)
