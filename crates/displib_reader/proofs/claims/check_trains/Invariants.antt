-- what is left gives the verdict on the whole
use Rattle.std.proofs.Common.{◌≡◌, map, drop}
use Rattle.serde_json.specs.View.{view}
use Rattle.json_claims.specs.Claims.{verdict, claims_from}
use Rattle.displib_reader.specs.Claims.{train_claims}
use Rattle.displib_reader.proofs.claims.check_trains.Given as goal

abbrev pub invariant-loop-t : goal.invariant-loop-t
invariant-loop-t l = verdict l.rule (claims_from train_claims l.t (map view (drop l.t l.values))) ≡ verdict l.rule (claims_from train_claims 0 (map view l.values))
