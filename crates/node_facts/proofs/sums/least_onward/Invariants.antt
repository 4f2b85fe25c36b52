-- the least sum from those so far
use Rattle.std.proofs.Common.{take}
use Rattle.node_facts.specs.Ways.{IsLeastOf, GoesOnward}
use Rattle.node_facts.proofs.sums.least_onward.Given as goal

abbrev pub invariant-loop-next : goal.invariant-loop-next
invariant-loop-next l = IsLeastOf (GoesOnward l.places l.demands l.sums l.op (take l.next-index l.nexts)) l.least
