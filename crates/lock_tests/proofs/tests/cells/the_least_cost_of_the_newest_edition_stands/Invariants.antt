use Rattle.std.proofs.Common.{◌≡◌}
use Rattle.incumbent_cell.specs.Cell.{cell_of, own_cell}
use Rattle.lock_tests.proofs.tests.cells.the_least_cost_of_the_newest_edition_stands.Given as goal

abbrev pub invariant-loop-edition : goal.invariant-loop-edition
invariant-loop-edition g l = own_cell l.pass ≡ cell_of l.cell
