use Rattle.std.proofs.Common.{◌<◌, ◌∙◌, length, get_or, Some, refl, sym, ap, arith}
use Rattle.std.proofs.lemmas.Option.{slice_get-get_or}
use Rattle.share_bound.proofs.Stepping.{relax_more}
use Rattle.share_bound.proofs.times.enter.Goals as goal

pub loop-next-preserved : goal.loop-next-preserved
loop-next-preserved c =
    let row = c.args.row.now in
    let at = get_or row c.loop-next.next-index 0 in
    let mid = c.loop-next.times.items in
    let within : at < length mid = omega (
      arith,
      c.requires c.loop-next.next-index 0 c.loop-next-test.true,
      c.loop-next.invariant.long,
    ) in
    relax_more row c.args.time c.loop-next.next-index at c.lowered-sooner.result c.index.result.now
    c.args.times.now.items mid c.loop-next-test.true refl within
    (slice_get-get_or mid at c.index.result.now within ∙ ap Some (sym c.index.ensures))
    c.lowered-sooner.ensures c.loop-next.invariant
