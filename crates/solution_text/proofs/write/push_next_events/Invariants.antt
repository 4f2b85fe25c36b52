-- the texts so far
use Rattle.std.proofs.Common.{take, string_bytes}
use Rattle.std.specs.List.{flat_map}
use Rattle.plain_values.specs.Texts.{Adds}
use Rattle.solution_text.specs.Texts.{next_event_text}
use Rattle.solution_text.proofs.write.push_next_events.Given as goal

abbrev pub invariant-loop-event : goal.invariant-loop-event
invariant-loop-event l = Adds (string_bytes l.fn.text) (string_bytes l.text) (flat_map next_event_text (take l.event-index l.plan))
