use Rattle.std.proofs.Common.{◌-◌, arith}
use Rattle.plan_builder.proofs.Blocking.{free_at, blocked_at, none_waits}
use Rattle.plan_builder.proofs.arrange.last_free.Goals as goal

pub returns-then-not-is_entered_from-clause-free : goal.returns-then-not-is_entered_from-clause-free
returns-then-not-is_entered_from-clause-free c =
    free_at c.args.paths.now.arcs c.args.rest.now c.args.waiting.now (c.loop-place.place - 1) _ c.requires.waiting (omega (arith, c.loop-place.invariant.within)) (c.is_entered_from.ensures.no c.if-not-is_entered_from.true)

pub loop-place-preserved : goal.loop-place-preserved
loop-place-preserved c =
    let loop = c.loop-place.invariant in
    record {
      within = omega (arith, loop.within);
      blocked = blocked_at c.args.paths.now.arcs c.args.rest.now c.args.waiting.now (c.loop-place.place - 1) _ c.requires.waiting (omega (arith, loop.within)) (c.is_entered_from.ensures.yes c.if-not-is_entered_from.false) (λ k d le lt. loop.blocked k d (omega (arith, le)) lt);
      rising = λ lt. c.is_entered_from.ensures.rising;
    }

pub returns-clause-none : goal.returns-clause-none
returns-clause-none c =
    let loop = c.loop-place.invariant in
    none_waits c.args.paths.now.arcs c.args.rest.now (λ k d le lt. loop.blocked k d (omega (arith, le)) lt) (λ lt. loop.rising (omega (arith, lt)))
