use Rattle.serde_json.specs.View.{view}
use Rattle.displib_reader.specs.ProblemOf.{components_of}
use Rattle.displib_reader.proofs.Components.{read_components}
use Rattle.json_claims.proofs.Unreadable.{is_readable}
use Rattle.displib_reader.proofs.problem.components_of.Goals as goal

pub unreachable-requires : goal.unreachable-requires
unreachable-requires c =
    let d = view c.args.value.now in
    let read = read_components d c.requires.linked c.requires.types in
    is_readable c.in-Err-Nothing.field-0 (components_of d) read.0 c.in-Err-Nothing.field-0-is c.in-Err-Nothing.ensures read.1
