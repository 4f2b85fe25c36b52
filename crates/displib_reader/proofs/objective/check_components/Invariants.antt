-- what is left gives the verdict on the whole
use Rattle.std.proofs.Common.{◌≡◌, map, drop}
use Rattle.serde_json.specs.View.{view}
use Rattle.json_claims.specs.Claims.{verdict, claims_from}
use Rattle.displib_reader.specs.Claims.{component_claims}
use Rattle.displib_reader.proofs.objective.check_components.Given as goal

abbrev pub invariant-loop-c : goal.invariant-loop-c
invariant-loop-c l = verdict l.rule (claims_from (component_claims (map view l.trains)) l.c (map view (drop l.c l.values))) ≡ verdict l.rule (claims_from (component_claims (map view l.trains)) 0 (map view l.values))
