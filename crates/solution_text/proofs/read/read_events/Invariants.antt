-- the events read so far, before those that are left, are those of the value
use Rattle.std.proofs.Common.{◌≡◌, map, drop}
use Rattle.serde_json.specs.View.{view}
use Rattle.json_claims.specs.Field.{each}
use Rattle.solution_text.specs.PlanOf.{event_of, plan_of}
use Rattle.json_claims.proofs.Steps.{with_front}
use Rattle.solution_text.proofs.read.read_events.Given as goal

abbrev pub invariant-loop-item : goal.invariant-loop-item
invariant-loop-item l = with_front l.events.items (each event_of (map view (drop l.item-index l.values))) ≡ plan_of (view l.value)
