-- what is left gives the verdict on the whole
use Rattle.std.proofs.Common.{◌≡◌, map, drop}
use Rattle.serde_json.specs.View.{view}
use Rattle.json_claims.specs.Claims.{verdict, claims_from}
use Rattle.solution_text.specs.Claims.{event_claims}
use Rattle.solution_text.proofs.claims.check_events.Given as goal

abbrev pub invariant-loop-k : goal.invariant-loop-k
invariant-loop-k l = verdict l.rule (claims_from event_claims l.k (map view (drop l.k l.values))) ≡ verdict l.rule (claims_from event_claims 0 (map view l.values))
