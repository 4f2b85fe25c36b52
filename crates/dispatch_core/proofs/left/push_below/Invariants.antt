-- the children so far, the last ones, are pending behind the others
use Rattle.std.proofs.Common.{◌≡◌, ◌++◌, drop, reverse}
use Rattle.dispatch_core.specs.Pending.{lists_below}
use Rattle.dispatch_core.proofs.left.push_below.Given as goal

abbrev pub invariant-loop-left : goal.invariant-loop-left
invariant-loop-left l = l.pending.items ≡ l.initial.pending.items ++ reverse (lists_below l.above (drop l.left l.children))
