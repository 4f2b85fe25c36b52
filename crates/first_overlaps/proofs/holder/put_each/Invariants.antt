-- the operation is among the holders of what it lists so far
use Rattle.std.proofs.Common.{take}
use Rattle.first_overlaps.specs.Holders.{AreHeldWith}
use Rattle.first_overlaps.proofs.holder.put_each.Given as goal

abbrev pub invariant-loop-listing : goal.invariant-loop-listing
invariant-loop-listing l = AreHeldWith l.problem l.op (take l.listing-index l.listing-items) l.each.items
