use Rattle.std.proofs.Common.{sym, subst}
use Rattle.problem_facts.specs.Prices.{own_price}
use Rattle.tree_checker.specs.TrainCosts.{reach_by, ArePrices}
use Rattle.tree_checker.proofs.paying.costs_over.Goals as goal

pub returns : goal.returns
returns c =
    let price = own_price c.args.components.now c.args.train (reach_by c.args.entered.now c.args.bases.now) in
    c.in_ok-costs.ensures price (subst (ArePrices c.args.operations.now price) (sym c.as_slice-prices.ensures.value) c.in_ok-prices.ensures)
