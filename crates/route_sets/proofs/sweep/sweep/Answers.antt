use Rattle.std.proofs.Common.{◌<◌, ℕ, List, length, get_or, Option, ap, arith}
use Rattle.std.proofs.lemmas.List.Elements.{Contains-get_or}
use Rattle.train_orders.proofs.Searching.{inside_at}
use Rattle.route_sets.proofs.Sweeping.{sweep_turn}
use Rattle.route_sets.proofs.sweep.sweep.Goals as goal

pub bounds-asks-at : goal.bounds-asks-at
bounds-asks-at c = omega (arith, c.requires.asks, c.requires.order.is_behind.within (get_or c.args.order.now c.loop-number.number-index 0) (Contains-get_or c.args.order.now c.loop-number.number-index 0 c.loop-number-test.true))

pub bounds-train-at : goal.bounds-train-at
bounds-train-at c = c.requires.order.is_behind.within (get_or c.args.order.now c.loop-number.number-index 0) (Contains-get_or c.args.order.now c.loop-number.number-index 0 c.loop-number-test.true)

pub bounds-train-at-in-loop-number : goal.bounds-train-at-in-loop-number
bounds-train-at-in-loop-number c = c.requires.order.is_behind.within (get_or c.args.order.now c.loop-number.number-index 0) (Contains-get_or c.args.order.now c.loop-number.number-index 0 c.loop-number-test.true)

pub row_of-requires : goal.row_of-requires
row_of-requires c k d less =
    omega (arith, inside_at c.args.train.now (get_or c.args.order.now c.loop-number.number-index 0) c.index-train-at.result c.requires.inside c.index-train-at.is (c.requires.order.is_behind.within (get_or c.args.order.now c.loop-number.number-index 0) (Contains-get_or c.args.order.now c.loop-number.number-index 0 c.loop-number-test.true)) k d less, c.loop-number.invariant.held_is.long, ap (λ (l : List (Option ℕ)). length l) c.deref.ensures.value)

pub index_mut-requires : goal.index_mut-requires
index_mut-requires c = omega (arith, c.loop-number.invariant.held_is.long, c.requires.order.is_behind.within (get_or c.args.order.now c.loop-number.number-index 0) (Contains-get_or c.args.order.now c.loop-number.number-index 0 c.loop-number-test.true))

pub loop-number-preserved : goal.loop-number-preserved
loop-number-preserved c =
    let train = c.args.train.now in
    let asks = c.args.asks.now in
    let order = c.args.order.now in
    let i = c.loop-number.number-index in
    let lt : i < length order = c.loop-number-test.true in
    let within : get_or order i 0 < length asks = omega (arith, c.requires.asks, c.requires.order.is_behind.within (get_or order i 0) (Contains-get_or order i 0 lt)) in
    rw c.in_ok-push.ensures.ok
    (sweep_turn train asks order i c.loop-number.held.items c.deref.result.now c.loop-number.count c.counted-count.result c.loop-number.rows c.loop-number.holds _ c.index-train-at.result c.index-train-at-in-loop-number.result c.in_ok-row.row c.has_way-holds.result c.holding.result
    c.requires.order.is_behind lt c.loop-number.invariant within c.index-train-at.is c.index-train-at-in-loop-number.is c.deref.ensures.value c.in_ok-row.ensures c.has_way-holds.ensures c.counted-count.ensures c.holding.ensures)
