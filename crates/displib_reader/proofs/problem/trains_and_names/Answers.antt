use Rattle.std.proofs.Common.{map, string_bytes, ap, ◌∙◌}
use Rattle.serde_json.specs.View.{view}
use Rattle.displib_reader.specs.ProblemOf.{trains_with}
use Rattle.displib_reader.proofs.Trains.{read_trains}
use Rattle.json_claims.proofs.Unreadable.{is_readable}
use Rattle.displib_reader.proofs.problem.trains_and_names.Goals as goal

pub unreachable-requires : goal.unreachable-requires
unreachable-requires c =
    let d = view c.args.value.now in
    let names = map string_bytes c.in_ok-names.names.keys in
    let read = read_trains d c.requires.linked in
    is_readable c.in-Err-Nothing.field-0 (trains_with names d) read.0 c.in-Err-Nothing.field-0-is c.in-Err-Nothing.ensures (ap (λ ns. trains_with ns d) c.in_ok-names.ensures ∙ read.1)
