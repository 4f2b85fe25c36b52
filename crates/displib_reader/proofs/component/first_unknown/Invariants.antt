-- the first among what is left is the first of all
use Rattle.std.proofs.Common.{◌≡◌, map, drop}
use Rattle.serde_json.specs.View.{view}
use Rattle.displib_reader.specs.Types.{first_unknown}
use Rattle.displib_reader.proofs.component.first_unknown.Given as goal

abbrev pub invariant-loop-c : goal.invariant-loop-c
invariant-loop-c l = first_unknown l.c (map view (drop l.c l.values)) ≡ first_unknown 0 (map view l.values)
