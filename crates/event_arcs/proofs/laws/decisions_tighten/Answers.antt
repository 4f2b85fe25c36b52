use Rattle.event_arcs.proofs.Extending.{allowed_before, allowed_still, still_sound, spans_still}
use Rattle.event_arcs.proofs.laws.decisions_tighten.Goals as goal

pub returns : goal.returns
returns c = record { routes = allowed_before; others = allowed_still; arcs = still_sound; spans = spans_still }
