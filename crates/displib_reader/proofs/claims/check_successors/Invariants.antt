-- what is left gives the verdict on the whole
use Rattle.std.proofs.Common.{◌≡◌, map, drop}
use Rattle.serde_json.specs.View.{view}
use Rattle.json_claims.specs.Claims.{verdict, claims_from}
use Rattle.displib_reader.specs.Claims.{successor_claims}
use Rattle.displib_reader.proofs.claims.check_successors.Given as goal

abbrev pub invariant-loop-k : goal.invariant-loop-k
invariant-loop-k l = verdict l.rule (claims_from (successor_claims l.count l.t l.o) l.k (map view (drop l.k l.values))) ≡ verdict l.rule (claims_from (successor_claims l.count l.t l.o) 0 (map view l.values))
