-- what is left gives the verdict on the whole
use Rattle.std.proofs.Common.{◌≡◌, map, drop, length}
use Rattle.serde_json.specs.View.{view}
use Rattle.json_claims.specs.Claims.{verdict, claims_from}
use Rattle.displib_reader.specs.Claims.{operation_claims}
use Rattle.displib_reader.proofs.claims.check_operations.Given as goal

abbrev pub invariant-loop-o : goal.invariant-loop-o
invariant-loop-o l = verdict l.rule (claims_from (operation_claims (length l.values) l.t) l.o (map view (drop l.o l.values))) ≡ verdict l.rule (claims_from (operation_claims (length l.values) l.t) 0 (map view l.values))
