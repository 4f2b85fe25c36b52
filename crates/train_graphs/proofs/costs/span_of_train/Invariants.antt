-- the sum so far, and that it is small
use Rattle.std.proofs.Common.{◌≡◌, ◌*◌, ◌^◌, ◌≤◌, take}
use Rattle.std.specs.Prelude.{sum_by}
use Rattle.disp_model.specs.WellFormed.{span_of}
use Rattle.train_graphs.proofs.costs.span_of_train.Given as goal

abbrev pub invariant-loop-operation : goal.invariant-loop-operation
invariant-loop-operation l = (l.sum ≡ sum_by span_of (take l.operation-index l.train)) × (l.sum ≤ l.operation-index * 2 ^ 33)
