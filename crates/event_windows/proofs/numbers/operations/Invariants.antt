-- the operations of the trains before
use Rattle.std.proofs.Common.{◌≡◌, length}
use Rattle.event_windows.specs.Operations.{operations_before, ListsFirst}
use Rattle.event_windows.proofs.numbers.operations.Given as goal

abbrev pub invariant-loop-train : goal.invariant-loop-train
invariant-loop-train l = record { long : length l.ops.items ≡ operations_before l.problem l.train; lists : ListsFirst l.problem l.ops.items }
