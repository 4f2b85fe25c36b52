-- the operations so far are filed
use Rattle.first_overlaps.specs.Holders.{AreHeldBelow}
use Rattle.first_overlaps.proofs.holder.holders_of.Given as goal

abbrev pub invariant-loop-number : goal.invariant-loop-number
invariant-loop-number l = AreHeldBelow l.problem l.number l.each.items
