use Rattle.std.proofs.Common.{◌≡◌, ◌≤◌, ◌*◌, ◌^◌, take}
use Rattle.std.specs.Prelude.{sum_by}
use Rattle.dispatch_reports.specs.Tables.{of_train, delay_in}
use Rattle.dispatch_reports.proofs.numbers.delay_of.Given as goal

abbrev pub invariant-loop-component : goal.invariant-loop-component
invariant-loop-component l = record {
  total : l.total ≡ sum_by (of_train l.train (delay_in l.events)) (take l.component-index l.component-items);
  small : l.total ≤ l.component-index * 2 ^ 64;
}
