use Rattle.std.proofs.Common.{◌∙◌, sym}
use Rattle.std.proofs.lemmas.Option.{none-some}
use Rattle.serde_json.specs.View.{view}
use Rattle.solution_text.proofs.Kept.{stated_there}
use Rattle.solution_text.proofs.read.stated_of.Goals as goal

pub unreachable-requires : goal.unreachable-requires
unreachable-requires c =
    let stated = stated_there (view c.args.value.now) c.requires.keeps.plain in
    none-some stated.0 (sym c.in-None.is ∙ c.optional_number.ensures ∙ stated.1)
