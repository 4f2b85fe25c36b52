-- the operations of the trains so far
use Rattle.std.proofs.Common.{◌≡◌, map, take, length, Some}
use Rattle.std.specs.Prelude.{sum_by}
use Rattle.serde_json.specs.View.{view}
use Rattle.json_claims.specs.Field.{members_in}
use Rattle.displib_reader.proofs.counts.operations_given.Given as goal

abbrev pub invariant-loop-train : goal.invariant-loop-train
invariant-loop-train l = l.count ≡ sum_by (λ train. length (members_in (Some train))) (map view (take l.train-index l.trains))
