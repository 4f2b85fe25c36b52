-- the names of the operations so far are there
use Rattle.std.proofs.Common.{◌≡◌, map, take, string_bytes}
use Rattle.std.specs.List.{flat_map}
use Rattle.serde_json.specs.View.{view}
use Rattle.displib_reader.specs.ProblemOf.{names_of_operation}
use Rattle.displib_reader.specs.Names.{with_names}
use Rattle.displib_reader.proofs.names.add_names_of_train.Given as goal

abbrev pub invariant-loop-operation : goal.invariant-loop-operation
invariant-loop-operation l = map string_bytes l.names.keys ≡ with_names (map string_bytes l.fn.names.keys) (flat_map names_of_operation (map view (take l.operation-index l.operation-items)))
