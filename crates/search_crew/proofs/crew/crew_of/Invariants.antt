-- as many hands as places, each of the crew
use Rattle.std.proofs.Common.{◌≡◌, length}
use Rattle.std.specs.Prelude.{All}
use Rattle.incumbent_cell.specs.Cell.{cell_of, own_cell}
use Rattle.search_crew.specs.declared.crew.Hand.{Hand}
use Rattle.search_crew.proofs.crew.crew_of.Given as goal

abbrev pub invariant-loop-place : goal.invariant-loop-place
invariant-loop-place l = record {
  cell : own_cell l.first ≡ cell_of l.least;
  count : length l.hands.items ≡ l.place;
  hands : All (λ (hand : Hand). own_cell hand.cell ≡ cell_of l.least) l.hands.items;
}
