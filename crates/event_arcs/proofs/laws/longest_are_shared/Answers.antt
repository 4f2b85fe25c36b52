use Rattle.event_arcs.proofs.Lengths.{same_longest}
use Rattle.event_arcs.proofs.laws.longest_are_shared.Goals as goal

pub returns : goal.returns
returns c = same_longest
