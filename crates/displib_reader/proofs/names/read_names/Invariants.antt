-- the names of the trains so far are there
use Rattle.std.proofs.Common.{◌≡◌, map, take, string_bytes, []}
use Rattle.std.specs.List.{flat_map}
use Rattle.serde_json.specs.View.{view}
use Rattle.displib_reader.specs.ProblemOf.{names_of_train}
use Rattle.displib_reader.specs.Names.{with_names}
use Rattle.displib_reader.proofs.names.read_names.Given as goal

abbrev pub invariant-loop-train : goal.invariant-loop-train
invariant-loop-train l = map string_bytes l.names.keys ≡ with_names [] (flat_map names_of_train (map view (take l.train-index l.train-items)))
