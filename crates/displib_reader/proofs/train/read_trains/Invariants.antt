-- the trains read so far, before those that are left, are those of the value
use Rattle.std.proofs.Common.{◌≡◌, map, drop, string_bytes}
use Rattle.serde_json.specs.View.{view}
use Rattle.json_claims.specs.Field.{each}
use Rattle.displib_reader.specs.ProblemOf.{train_read_as, trains_with}
use Rattle.json_claims.proofs.Steps.{with_front}
use Rattle.displib_reader.proofs.train.read_trains.Given as goal

abbrev pub invariant-loop-item : goal.invariant-loop-item
invariant-loop-item l = with_front l.trains.items (each (train_read_as (map string_bytes l.names.keys)) (map view (drop l.item-index l.values))) ≡ trains_with (map string_bytes l.names.keys) (view l.value)
