-- those of the trains so far
use Rattle.std.proofs.Common.{◌≡◌, ◌≤◌, ◌*◌, ◌^◌, length, take}
use Rattle.std.specs.Prelude.{sum_by}
use Rattle.answered_tasks.proofs.maker.operation_count.Given as goal

abbrev pub invariant-loop-train : goal.invariant-loop-train
invariant-loop-train l = record {
  count : l.count ≡ sum_by (λ train. length train) (take l.train-index l.train-items);
  small : l.count ≤ l.train-index * 2 ^ 64;
}
