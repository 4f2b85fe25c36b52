use Rattle.std.proofs.Common.{get_or, arith}
use Rattle.incremental_paths.proofs.Telling.{tells_none, tells_both}
use Rattle.incremental_paths.proofs.Pushing.{swept_next}
use Rattle.incremental_paths.proofs.spread.sweep.Goals as goal

pub loop-place-init : goal.loop-place-init
loop-place-init g c = record { reached = λ lowers r. r; spread = λ k d lt low. absurd (omega (arith, low)); tells = tells_none c.args.changes.now c.args.lengths.now }

pub loop-place-preserved : goal.loop-place-preserved
loop-place-preserved g c =
    let loop = c.loop-place.invariant in
    let within = rw (← c.requires.sizes) at c.requires.within in
    record {
      reached = λ lowers r. c.raise_ends.ensures.reached lowers (loop.reached lowers r);
      spread = swept_next c.args.arcs.now c.args.order.now c.loop-place.lengths c.raise_ends.new.lengths c.node-node.result c.loop-place.place c.requires.rising within c.node-node.ensures.is c.node-node.ensures.only c.raise_ends.ensures.spreads loop.spread;
      tells = tells_both c.args.changes.now c.loop-place.changes c.raise_ends.new.changes c.args.lengths.now c.loop-place.lengths c.raise_ends.new.lengths loop.tells c.raise_ends.ensures.tells;
    }

pub returns-clause-spread : goal.returns-clause-spread
returns-clause-spread g c = λ k d lt.
    let above = c.size-place-end.ensures.above (get_or c.args.arcs.now k d).from (omega (arith, (c.requires.within k d lt).0, c.requires.sizes)) in
    c.loop-place.invariant.spread k d lt (omega (arith, above, c.loop-place-test.false, c.size-place-end.ensures.is))
