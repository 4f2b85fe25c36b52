-- which of the operations so far have a mark
use Rattle.std.proofs.Common.{◌≡◌, map, take}
use Rattle.std.specs.Option.{is_some}
use Rattle.node_facts.proofs.needed.marked.Given as goal

abbrev pub invariant-loop-mark : goal.invariant-loop-mark
invariant-loop-mark l = l.marked.items ≡ map is_some (take l.mark-index l.marks)
