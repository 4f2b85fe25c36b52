use Rattle.std.proofs.Common.{arith}
use Rattle.first_overlaps.proofs.Holding.{all_held}
use Rattle.first_overlaps.proofs.holder.holders_of.Goals as goal

pub returns : goal.returns
returns c = all_held c.args.problem.now c.loop-number.number c.loop-number.each.items (omega (arith, c.loop-number-test.false, c.requires.long)) c.loop-number.invariant
