use Rattle.std.proofs.Common.{◌≡◌, ◌<◌, length, get_or, Some, None, ap, arith}
use Rattle.std.specs.Prelude.{slice_get}
use Rattle.std.proofs.lemmas.Option.{slice_get-get_or}
use Rattle.disp_model.specs.declared.train.Operation.{Operation}
use Rattle.share_bound.specs.Times.{base_in}
use Rattle.share_bound.proofs.Stepping.{row_within, row_found, duration_at, sum_read}
use Rattle.share_bound.proofs.Entering.{leaves_none, leaves}
use Rattle.share_bound.proofs.times.leave.Goals as goal

pub returns-in_default : goal.returns-in_default
returns-in_default c =
    let order = c.args.order.now in
    let place = c.args.place in
    let at = get_or order place 0 in
    let here : slice_get order place ≡ Some at = slice_get-get_or order place 0 c.requires.place in
    let times = c.args.times.now.items in
    let within : at < length times = omega (
      arith,
      c.requires.laid.within place at here,
      c.requires.before.long,
    ) in
    leaves_none c.args.train.now (base_in c.args.bases.now) order c.args.rows.now place at times
    c.requires.laid here c.requires.before
    (sum_read times at c.index.result.now None c.index.ensures c.in_default.is within)

pub left_at-left-requires-clause-time : goal.left_at-left-requires-clause-time
left_at-left-requires-clause-time c =
    let order = c.args.order.now in
    let at = get_or order c.args.place 0 in
    let times = c.args.times.now.items in
    let within : at < length times = omega (
      arith,
      c.requires.laid.within c.args.place at
          (slice_get-get_or order c.args.place 0 c.requires.place),
      c.requires.before.long,
    ) in
    let has : slice_get times at ≡ Some (Some c.in-Some.time) = sum_read times at c.index.result.now
    (Some c.in-Some.time) c.index.ensures c.in-Some.is within in
    omega (arith, c.requires.before.small at c.in-Some.time has, c.requires.laid.fits)

pub enter-requires : goal.enter-requires
enter-requires c k d less =
    let order = c.args.order.now in
    let rows = c.args.rows.now in
    let place = c.args.place in
    let row = row_found rows place c.index-rows-place.result c.as_slice.result.now
    c.index-rows-place.is c.as_slice.ensures
    (omega (arith, c.requires.laid.long, c.requires.place)) in
    omega (
      arith,
      row_within c.args.train.now order rows place (get_or order place 0) c.as_slice.result.now
          c.requires.laid (slice_get-get_or order place 0 c.requires.place) row k d less,
      c.requires.before.long,
    )

pub returns : goal.returns
returns c =
    let train = c.args.train.now in
    let order = c.args.order.now in
    let rows = c.args.rows.now in
    let place = c.args.place in
    let at = get_or order place 0 in
    let times = c.args.times.now.items in
    let here : slice_get order place ≡ Some at = slice_get-get_or order place 0 c.requires.place in
    let inside : at < length train = c.requires.laid.within place at here in
    let row = row_found rows place c.index-rows-place.result c.as_slice.result.now
    c.index-rows-place.is c.as_slice.ensures
    (omega (arith, c.requires.laid.long, c.requires.place)) in
    let min = duration_at train at c.index-train-at.result c.index-train-at.is inside in
    let same = ap (λ (o : Operation). o.min) c.index-train-at.is in
    leaves train (base_in c.args.bases.now) order rows place at c.in-Some.time c.left_at-left.result
    c.as_slice.result.now times c.enter.new.times.items
    (record {
      laid = c.requires.laid;
      here = here;
      row_is = row;
      before = c.requires.before;
      has = sum_read times at c.index.result.now (Some c.in-Some.time) c.index.ensures c.in-Some.is
          (omega (arith, inside, c.requires.before.long));
      through_is = omega (arith, min, same, c.left_at-left.ensures);
      base_small = c.requires.bases at;
      short = omega (arith, min, same, c.index-train-at.element_fits);
    })
    c.enter.ensures
