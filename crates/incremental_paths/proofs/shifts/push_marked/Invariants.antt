use Rattle.std.proofs.Common.{◌≡◌, ◌++◌, filter, take}
use Rattle.incremental_paths.specs.Ordered.{is_as}
use Rattle.incremental_paths.proofs.shifts.push_marked.Given as goal

abbrev pub invariant-loop-node : goal.invariant-loop-node
invariant-loop-node g l = l.out.items ≡ l.initial.out.items ++ filter (is_as l.marks l.wanted) (take l.node-index l.nodes)
