-- the names so far, before those that are left
use Rattle.std.proofs.Common.{◌≡◌, ◌++◌, map, string_bytes}
use Rattle.displib_reader.proofs.names.list_names.Given as goal

abbrev pub invariant-loop-name : goal.invariant-loop-name
invariant-loop-name l = l.texts.items ++ map string_bytes l.name-iterator ≡ map string_bytes l.fn.names.keys
