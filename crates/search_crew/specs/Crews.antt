-- Which crew a hand is of.
use Rattle.std.specs.Prelude.{◌≡◌}
use Rattle.incumbent_cell.specs.Cell.{cell_of, own_cell}
use Rattle.search_crew.specs.declared.crew.Crew.{Crew}
use Rattle.search_crew.specs.declared.crew.Hand.{Hand}

-- the hand's pass is one to the crew's least cost
abbrev pub IsHandOf : Crew → Hand → Type 0
IsHandOf crew hand = own_cell hand.cell ≡ cell_of crew.least

-- the hand is of the crew that it was of
abbrev pub IsSameHand : Hand → Hand → Type 0
IsSameHand before after = own_cell after.cell ≡ own_cell before.cell
