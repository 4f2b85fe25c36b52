use Rattle.std.proofs.Common.{◌≡◌, ◌+◌, ◌<◌, length, get_or, Some, None, ap, arith}
use Rattle.std.specs.Prelude.{slice_get}
use Rattle.std.proofs.lemmas.Option.{slice_get-get_or}
use Rattle.disp_model.specs.declared.train.Operation.{Operation}
use Rattle.route_marks.proofs.Chaining.{row_within}
use Rattle.route_marks.proofs.Passing.{visits_none, visits, duration_at, row_read, sum_read}
use Rattle.route_marks.proofs.marks.visit.Goals as goal

pub returns-in_default : goal.returns-in_default
returns-in_default c =
    let order = c.args.order.now in
    let place = c.args.place in
    let at = get_or order place 0 in
    let here : slice_get order place ≡ Some at = slice_get-get_or order place 0 c.requires.place in
    let sums = c.args.pass.now.sums.items in
    let within : at < length sums = omega (arith, c.requires.laid.within place at here, c.requires.passes.sums_long) in
    visits_none c.args.train.now order c.args.rows.now place at sums c.args.pass.now.reach c.args.pass.now.marks.items (record { laid = c.requires.laid; here = here; pass = c.requires.passes })
    (sum_read sums at c.index.result.now None c.index.ensures c.in_default.is within)

pub bounds-train-at : goal.bounds-train-at
bounds-train-at c = c.requires.laid.within c.args.place (get_or c.args.order.now c.args.place 0) (slice_get-get_or c.args.order.now c.args.place 0 c.requires.place)

pub bounds-train-at-in-Some : goal.bounds-train-at-in-Some
bounds-train-at-in-Some c = c.requires.laid.within c.args.place (get_or c.args.order.now c.args.place 0) (slice_get-get_or c.args.order.now c.args.place 0 c.requires.place)

pub overflow_add-through : goal.overflow_add-through
overflow_add-through c =
    let order = c.args.order.now in
    let at = get_or order c.args.place 0 in
    let sums = c.args.pass.now.sums.items in
    let within : at < length sums = omega (arith, c.requires.laid.within c.args.place at (slice_get-get_or order c.args.place 0 c.requires.place), c.requires.passes.sums_long) in
    let has : slice_get sums at ≡ Some (Some c.in-Some.sum) = sum_read sums at c.index.result.now (Some c.in-Some.sum) c.index.ensures c.in-Some.is within in
    omega (arith, c.requires.passes.bound at c.in-Some.sum has, c.requires.laid.fits, c.from.ensures, c.index-train-at.element_fits)

pub index_mut-requires : goal.index_mut-requires
index_mut-requires c = omega (arith, c.requires.laid.within c.args.place (get_or c.args.order.now c.args.place 0) (slice_get-get_or c.args.order.now c.args.place 0 c.requires.place), c.requires.passes.marks_long)

pub relax-requires : goal.relax-requires
relax-requires c k d less =
    let order = c.args.order.now in
    let rows = c.args.rows.now in
    let place = c.args.place in
    let row = row_read rows c.as_slice.result.now place c.index-as_slice-place.result c.as_slice-row.result.now c.as_slice.ensures c.index-as_slice-place.is c.as_slice-row.ensures (omega (arith, c.requires.laid.long, c.requires.place)) in
    omega (arith, row_within c.args.train.now order rows place (get_or order place 0) c.as_slice-row.result.now c.requires.laid (slice_get-get_or order place 0 c.requires.place) row k d less, c.requires.passes.sums_long)

pub lowest-pass-requires : goal.lowest-pass-requires
lowest-pass-requires c k d less =
    let order = c.args.order.now in
    let rows = c.args.rows.now in
    let place = c.args.place in
    let row = row_read rows c.as_slice.result.now place c.index-as_slice-place.result c.as_slice-row.result.now c.as_slice.ensures c.index-as_slice-place.is c.as_slice-row.ensures (omega (arith, c.requires.laid.long, c.requires.place)) in
    omega (arith, row_within c.args.train.now order rows place (get_or order place 0) c.as_slice-row.result.now c.requires.laid (slice_get-get_or order place 0 c.requires.place) row k d less, c.requires.places.long)

pub returns : goal.returns
returns c =
    let train = c.args.train.now in
    let order = c.args.order.now in
    let rows = c.args.rows.now in
    let place = c.args.place in
    let at = get_or order place 0 in
    let sums = c.args.pass.now.sums.items in
    let here : slice_get order place ≡ Some at = slice_get-get_or order place 0 c.requires.place in
    let inside : at < length train = c.requires.laid.within place at here in
    let row = row_read rows c.as_slice.result.now place c.index-as_slice-place.result c.as_slice-row.result.now c.as_slice.ensures c.index-as_slice-place.is c.as_slice-row.ensures (omega (arith, c.requires.laid.long, c.requires.place)) in
    let min = duration_at train at c.index-train-at.result c.index-train-at.is inside in
    let same = ap (λ (o : Operation). o.min) c.index-train-at.is in
    visits train order c.args.places.now rows place at c.in-Some.sum (c.in-Some.sum + c.from.result) c.as_slice-row.result.now sums c.args.pass.now.reach c.args.pass.now.marks.items c.relax.new.sums.items c.lowest-pass.result c.mark_of.result
    (record {
      is_at = record { laid = c.requires.laid; here = here; pass = c.requires.passes };
      are_places = c.requires.places;
      row_is = row;
      has = sum_read sums at c.index.result.now (Some c.in-Some.sum) c.index.ensures c.in-Some.is (omega (arith, inside, c.requires.passes.sums_long));
      through_is = omega (arith, min, same, c.from.ensures);
      short = omega (arith, min, same, c.from.ensures, c.index-train-at.element_fits);
    })
    c.relax.ensures c.lowest-pass.ensures c.mark_of.ensures
