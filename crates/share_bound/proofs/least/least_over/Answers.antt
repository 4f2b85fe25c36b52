use Rattle.std.proofs.lemmas.Result.{IfOk-weaker}
use Rattle.share_bound.specs.Times.{base_in}
use Rattle.share_bound.proofs.Costing.{over_found}
use Rattle.share_bound.proofs.least.least_over.Goals as goal

pub returns : goal.returns
returns c =
    IfOk-weaker c.least_cost.result _ _ (λ found cheapest node same are own.
    over_found node c.args.train c.args.operations.now c.args.components.now c.args.order.now
    c.args.rows.now (base_in c.args.bases.now) c.in_ok-times.times.items c.deref.result.now
    c.in_ok-prices.prices.items c.deref-2.result.now found
    same are own c.in_ok-times.ensures c.deref.ensures.value c.in_ok-prices.ensures.prices
    c.deref-2.ensures.value cheapest) c.least_cost.ensures
