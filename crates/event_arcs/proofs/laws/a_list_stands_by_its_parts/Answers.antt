use Rattle.event_arcs.proofs.Deciding.{stands_by_parts}
use Rattle.event_arcs.proofs.laws.a_list_stands_by_its_parts.Goals as goal

pub returns : goal.returns
returns c = stands_by_parts
