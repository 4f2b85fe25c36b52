-- what is left gives the verdict on the whole
use Rattle.std.proofs.Common.{◌≡◌, map, drop}
use Rattle.serde_json.specs.View.{view}
use Rattle.json_claims.specs.Claims.{verdict, claims_from}
use Rattle.displib_reader.specs.Claims.{listing_claims}
use Rattle.displib_reader.proofs.claims.check_listings.Given as goal

abbrev pub invariant-loop-k : goal.invariant-loop-k
invariant-loop-k l = verdict l.rule (claims_from (listing_claims l.t l.o) l.k (map view (drop l.k l.values))) ≡ verdict l.rule (claims_from (listing_claims l.t l.o) 0 (map view l.values))
