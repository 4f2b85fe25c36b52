use Rattle.std.proofs.Common.{arith}
use Rattle.first_overlaps.proofs.Holding.{none_held}
use Rattle.first_overlaps.proofs.holder.none_yet.Goals as goal

pub returns : goal.returns
returns c = none_held c.args.problem.now c.loop.each.items (omega (arith, c.loop.invariant.count, c.loop.auto.counter-end, c.loop-test.false)) c.loop.invariant.none
