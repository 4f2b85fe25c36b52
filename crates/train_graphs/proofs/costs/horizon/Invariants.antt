-- the horizon so far, and that it is small
use Rattle.std.proofs.Common.{◌≡◌, ◌+◌, ◌*◌, ◌^◌, ◌≤◌, take}
use Rattle.disp_model.specs.WellFormed.{horizon, operation_count}
use Rattle.disp_model.specs.declared.limits.TheConstants.{GREATEST_NUMBER}
use Rattle.train_graphs.proofs.costs.horizon.Given as goal

abbrev pub invariant-loop-train : goal.invariant-loop-train
invariant-loop-train l = (l.last ≡ horizon (take l.train-index l.trains)) × (l.last ≤ GREATEST_NUMBER + operation_count (take l.train-index l.trains) * 2 ^ 33)
