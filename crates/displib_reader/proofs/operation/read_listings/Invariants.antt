-- the listings read so far, before those that are left, are those of the values
use Rattle.std.proofs.Common.{◌≡◌, map, drop, string_bytes}
use Rattle.serde_json.specs.View.{view}
use Rattle.json_claims.specs.Field.{each}
use Rattle.displib_reader.specs.ProblemOf.{listing_of}
use Rattle.json_claims.proofs.Steps.{with_front}
use Rattle.displib_reader.proofs.operation.read_listings.Given as goal

abbrev pub invariant-loop-value : goal.invariant-loop-value
invariant-loop-value l = with_front l.listings.items (each (listing_of (map string_bytes l.names.keys)) (map view (drop l.value-index l.values))) ≡ each (listing_of (map string_bytes l.names.keys)) (map view l.values)
