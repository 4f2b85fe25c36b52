-- the numbers read so far, before those that are left, are those of the values
use Rattle.std.proofs.Common.{◌≡◌, map, drop}
use Rattle.serde_json.specs.View.{view}
use Rattle.disp_model.specs.declared.limits.TheConstants.{GREATEST_NUMBER}
use Rattle.json_claims.specs.Field.{each, whole_of}
use Rattle.json_claims.proofs.Steps.{with_front}
use Rattle.displib_reader.proofs.operation.read_numbers.Given as goal

abbrev pub invariant-loop-value : goal.invariant-loop-value
invariant-loop-value l = with_front l.numbers.items (each (whole_of GREATEST_NUMBER) (map view (drop l.value-index l.values))) ≡ each (whole_of GREATEST_NUMBER) (map view l.values)
