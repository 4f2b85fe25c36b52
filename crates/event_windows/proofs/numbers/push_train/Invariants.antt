-- the operations before the train's, and its first so many
use Rattle.std.proofs.Common.{◌≡◌, ◌+◌, length}
use Rattle.event_windows.specs.Operations.{operations_before, ListsFirst}
use Rattle.event_windows.proofs.numbers.push_train.Given as goal

abbrev pub invariant-loop-op : goal.invariant-loop-op
invariant-loop-op l = record { long : length l.ops.items ≡ operations_before l.problem l.train + l.op; lists : ListsFirst l.problem l.ops.items }
