use Rattle.std.proofs.Common.{◌<◌, ◌∙◌, length, get_or, Some, refl, sym, ap, arith}
use Rattle.std.proofs.lemmas.Option.{slice_get-get_or}
use Rattle.route_marks.proofs.Relaxing.{relax_more}
use Rattle.route_marks.proofs.marks.relax.Goals as goal

pub loop-next-preserved : goal.loop-next-preserved
loop-next-preserved c =
    let row = c.args.row.now in
    let at = get_or row c.loop-next.next-index 0 in
    let mid = c.loop-next.sums.items in
    let within : at < length mid = omega (arith, c.requires c.loop-next.next-index 0 c.loop-next-test.true, c.loop-next.invariant.long) in
    relax_more row c.args.through c.loop-next.next-index at c.lowered-sum.result c.index.result.now c.args.sums.now.items mid c.loop-next-test.true refl within (slice_get-get_or mid at c.index.result.now within ∙ ap Some (sym c.index.ensures)) c.lowered-sum.ensures c.loop-next.invariant
