use Rattle.std.proofs.Common.{◌∙◌, ◌≡◌, ◌+◌, ℕ, List, length, get_or, set, Option, ap, subst, sym, arith}
use Rattle.std.proofs.lemmas.List.{length-set}
use Rattle.train_orders.specs.Orders.{IsOrder}
use Rattle.node_facts.proofs.Summing.{within_order}
use Rattle.tree_checker.proofs.Paid.{paid_more, paid_all, ArePaid}
use Rattle.tree_checker.proofs.paying.costs_of.Goals as goal

pub bounds-operations-at : goal.bounds-operations-at
bounds-operations-at c = within_order c.args.operations.now c.order-order.result.now c.loop-number.number-index (subst (IsOrder c.args.operations.now) (sym c.order-order.ensures) c.requires.order) c.loop-number-test.true

pub index_mut-requires : goal.index_mut-requires
index_mut-requires c =
    let ordered = subst (IsOrder c.args.operations.now) (sym c.order-order.ensures) c.requires.order in
    omega (arith, c.loop-number.invariant.0, within_order c.args.operations.now c.order-order.result.now c.loop-number.number-index ordered c.loop-number-test.true)

pub loop-number-preserved : goal.loop-number-preserved
loop-number-preserved c =
    let operations = c.args.operations.now in
    let places = c.args.known.now.places.items in
    let demands = c.args.known.now.demands.items in
    let i = c.loop-number.number-index in
    let ordered = subst (IsOrder operations) (sym c.order-order.ensures) c.requires.order in
    let after : List (Option ℕ) = set c.loop-number.costs.items (get_or c.order-order.result.now i 0) c.cost_from-cost.result in (
      length-set c.loop-number.costs.items _ c.cost_from-cost.result ∙ c.loop-number.invariant.0,
      λ price priced.
          let before = subst (λ (l : List ℕ). ArePaid operations l places demands price i c.loop-number.costs.items) (sym c.order-order.ensures) (c.loop-number.invariant.1 price priced) in
          subst (λ (l : List ℕ). ArePaid operations l places demands price (i + 1) after) c.order-order.ensures
          (paid_more operations c.order-order.result.now places demands price c.args.prices.now i c.base_at-price.result c.loop-number.costs.items c.deref.result.now c.index-operations-at.result c.cost_from-cost.result ordered c.loop-number-test.true
          c.loop-number.invariant.0 priced c.base_at-price.ensures c.deref.ensures.value c.index-operations-at.is before c.cost_from-cost.ensures),
    )

pub returns : goal.returns
returns c price priced =
    let order = c.args.known.now.order.items in
    let long : length c.order-order.result.now ≡ length order = ap (λ (l : List ℕ). length l) c.order-order.ensures in
    paid_all c.args.operations.now order c.args.known.now.places.items c.args.known.now.demands.items price c.loop-number.number-index c.loop-number.costs.items c.requires.order (omega (arith, long, c.loop-number-test.false)) (c.loop-number.invariant.1 price priced)
