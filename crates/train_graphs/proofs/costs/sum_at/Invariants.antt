-- the sum so far, and that it is small
use Rattle.std.proofs.Common.{◌≡◌, ◌*◌, ◌^◌, ◌≤◌, take}
use Rattle.std.specs.Prelude.{sum_by}
use Rattle.disp_model.specs.WellFormed.{most_of}
use Rattle.train_graphs.proofs.costs.sum_at.Given as goal

abbrev pub invariant-loop-component : goal.invariant-loop-component
invariant-loop-component l = (l.sum ≡ sum_by (most_of l.last) (take l.component-index l.components)) × (l.sum ≤ l.component-index * 2 ^ 96)
