use Rattle.std.proofs.Common.{◌≡◌, ℕ, List, length, get_or, Some, ap, subst, arith}
use Rattle.std.specs.Prelude.{slice_get}
use Rattle.std.proofs.lemmas.Option.{slice_get-get_or}
use Rattle.share_bound.specs.Leasts.{IsPaidBehind}
use Rattle.share_bound.proofs.Stepping.{row_within, row_found}
use Rattle.share_bound.proofs.Paying.{paid_more}
use Rattle.share_bound.proofs.least.pay.Goals as goal

pub behind-behind-requires : goal.behind-behind-requires
behind-behind-requires c k d less =
    let order = c.args.order.now in
    let rows = c.args.rows.now in
    let place = c.args.place in
    let row = row_found rows place c.index-rows-place.result c.as_slice.result.now
    c.index-rows-place.is c.as_slice.ensures
    (omega (arith, c.requires.laid.long, c.requires.place)) in
    let long = ap (λ (l : List ℕ). length l) c.deref.ensures.value in
    omega (
      arith,
      row_within c.args.train.now order rows place (get_or order place 0) c.as_slice.result.now
          c.requires.laid (slice_get-get_or order place 0 c.requires.place) row k d less,
      c.requires.costs,
      long,
    )

pub bounds-prices-at : goal.bounds-prices-at
bounds-prices-at c = omega (
  arith,
  c.requires.laid.within c.args.place (get_or c.args.order.now c.args.place 0)
      (slice_get-get_or c.args.order.now c.args.place 0 c.requires.place),
  c.requires.prices,
)

pub index_mut-requires : goal.index_mut-requires
index_mut-requires c = omega (
  arith,
  c.requires.laid.within c.args.place (get_or c.args.order.now c.args.place 0)
      (slice_get-get_or c.args.order.now c.args.place 0 c.requires.place),
  c.requires.costs,
)

pub returns-clause-paid : goal.returns-clause-paid
returns-clause-paid c price priced before =
    let order = c.args.order.now in
    let rows = c.args.rows.now in
    let place = c.args.place in
    let at = get_or order place 0 in
    let here : slice_get order place ≡ Some at = slice_get-get_or order place 0 c.requires.place in
    let row = row_found rows place c.index-rows-place.result c.as_slice.result.now
    c.index-rows-place.is c.as_slice.ensures
    (omega (arith, c.requires.laid.long, c.requires.place)) in
    paid_more c.args.train.now order rows price place at (get_or c.args.prices.now at 0)
    c.behind-behind.result c.saturating_add-cost.result c.as_slice.result.now
    c.args.costs.now.items
    (record {
      laid = c.requires.laid;
      here = here;
      row_is = row;
      own_is = priced at (c.requires.laid.within place at here);
      before = before;
      least = subst (λ (l : List ℕ). IsPaidBehind l c.as_slice.result.now c.behind-behind.result)
          c.deref.ensures.value c.behind-behind.ensures;
      cost_is = c.saturating_add-cost.ensures;
    })
