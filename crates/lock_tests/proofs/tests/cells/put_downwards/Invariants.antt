use Rattle.std.proofs.Common.{◌≡◌}
use Rattle.incumbent_cell.specs.Cell.{cell_of, own_cell}
use Rattle.lock_tests.proofs.tests.cells.put_downwards.Given as goal

abbrev pub invariant-loop-step : goal.invariant-loop-step
invariant-loop-step l = own_cell l.pass ≡ cell_of l.cell
