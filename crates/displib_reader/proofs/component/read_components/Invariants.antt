-- the components read so far, before those that are left, are those of the value
use Rattle.std.proofs.Common.{◌≡◌, map, drop}
use Rattle.serde_json.specs.View.{view}
use Rattle.json_claims.specs.Field.{each}
use Rattle.displib_reader.specs.ProblemOf.{component_of, components_of}
use Rattle.json_claims.proofs.Steps.{with_front}
use Rattle.displib_reader.proofs.component.read_components.Given as goal

abbrev pub invariant-loop-item : goal.invariant-loop-item
invariant-loop-item l = with_front l.components.items (each component_of (map view (drop l.item-index l.values))) ≡ components_of (view l.value)
