use Rattle.std.proofs.Common.{rules, ◌-◌, ◌^◌, length}
use Rattle.problem_facts.proofs.Added.{prices_added}
use Rattle.tree_checker.specs.TrainCosts.{reach_by}
use Rattle.tree_checker.proofs.paying.prices_of.Goals as goal

pub returns : goal.returns
returns c =
    let reach = reach_by c.args.entered.now c.args.bases.now in
    prices_added (2 ^ 128 - 1) c.args.train reach c.args.components.now (length c.args.operations.now) c.in_ok-prices.prices.items c.add_components.new.kept.items
    c.add_components.ensures (search rules) (λ sum more d k. search rules)
