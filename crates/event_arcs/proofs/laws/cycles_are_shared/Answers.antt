use Rattle.event_arcs.proofs.Cycling.{same_cycles, cycle_of_numbers}
use Rattle.event_arcs.proofs.laws.cycles_are_shared.Goals as goal

pub returns : goal.returns
returns c = record { exactly = same_cycles; operations = cycle_of_numbers }
