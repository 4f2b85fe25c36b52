-- the least of those so far
use Rattle.std.proofs.Common.{take}
use Rattle.node_facts.specs.Ways.{IsLeastOf, GoesOnward}
use Rattle.tree_checker.proofs.paying.least_onward.Given as goal

abbrev pub invariant-loop-next : goal.invariant-loop-next
invariant-loop-next l = IsLeastOf (GoesOnward l.known.places.items l.known.demands.items l.costs l.op (take l.next-index l.nexts)) l.least
