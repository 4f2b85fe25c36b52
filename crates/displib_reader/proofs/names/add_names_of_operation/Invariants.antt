-- the names of the listings so far are there
use Rattle.std.proofs.Common.{◌≡◌, map, take, string_bytes}
use Rattle.std.specs.List.{filter_map}
use Rattle.serde_json.specs.View.{view}
use Rattle.json_claims.specs.Field.{text_at}
use Rattle.displib_reader.specs.Names.{with_names}
use Rattle.std.specs.Prelude.{codes}
use Rattle.displib_reader.proofs.names.add_names_of_operation.Given as goal

abbrev pub invariant-loop-listing : goal.invariant-loop-listing
invariant-loop-listing l = map string_bytes l.names.keys ≡ with_names (map string_bytes l.fn.names.keys) (filter_map (text_at (codes "resource")) (map view (take l.listing-index l.listing-items)))
