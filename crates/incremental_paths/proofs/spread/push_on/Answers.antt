use Rattle.std.proofs.Common.{inl, inr, get_or, ap, sym, subst, arith}
use Rattle.incremental_paths.specs.Spread.{AreWaiting}
use Rattle.incremental_paths.proofs.Telling.{tells_none, tells_both}
use Rattle.incremental_paths.proofs.Pushing.{waiting_none}
use Rattle.incremental_paths.proofs.spread.push_on.Goals as goal

pub loop-place-init : goal.loop-place-init
loop-place-init g c = record {
  reached = λ lowers r. r;
  waiting = subst (AreWaiting c.args.arcs.now c.args.order.now c.args.lengths.now c.args.changes.now) (sym c.place-low.ensures.is) c.requires.waiting;
  tells = tells_none c.args.changes.now c.args.lengths.now;
  within = c.place-low.ensures.within;
  reach = λ v has. omega (arith, c.place-low.ensures.is, ap (λ z. get_or c.args.order.now z 0) (c.requires.lone v has));
}

pub loop-place-preserved : goal.loop-place-preserved
loop-place-preserved g c =
    let loop = c.loop-place.invariant in
    record {
      reached = λ lowers r. c.push_place-top.ensures.reached lowers (loop.reached lowers r);
      waiting = c.push_place-top.ensures.waiting;
      tells = tells_both c.args.changes.now c.loop-place.changes c.push_place-top.new.changes c.args.lengths.now c.loop-place.lengths c.push_place-top.new.lengths loop.tells c.push_place-top.ensures.tells;
      within = c.push_place-top.ensures.within;
      reach = λ v has. elim (c.push_place-top.ensures.reach v has) [ inl was ↦ omega (arith, loop.reach v was, c.push_place-top.ensures.above) | inr top ↦ top ];
    }

pub returns-then-place-top-clause-spread : goal.returns-then-place-top-clause-spread
returns-then-place-top-clause-spread g c =
    let loop = c.loop-place.invariant in
    waiting_none c.args.arcs.now c.args.order.now c.loop-place.lengths c.loop-place.changes c.loop-place.place loop.waiting (λ v has. omega (arith, loop.reach v has, c.if-place-top.true))

pub returns-clause-spread : goal.returns-clause-spread
returns-clause-spread g c =
    let loop = c.loop-place.invariant in
    waiting_none c.args.arcs.now c.args.order.now c.loop-place.lengths c.loop-place.changes c.loop-place.place loop.waiting (λ v has. omega (arith, loop.reach v has, loop.within, c.loop-place-test.false, c.size-place-end.ensures.is))
