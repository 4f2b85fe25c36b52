-- what is kept of the lengths so far
use Rattle.share_leaves.specs.Listed.{KeepsTo}
use Rattle.share_leaves.proofs.kept.kept.Given as goal

abbrev pub invariant-loop-number : goal.invariant-loop-number
invariant-loop-number l = KeepsTo l.lengths l.number l.kept.items
