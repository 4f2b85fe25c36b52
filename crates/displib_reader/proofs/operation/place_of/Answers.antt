use Rattle.std.proofs.Common.{◌∙◌}
use Rattle.displib_reader.proofs.Once.{name_place}
use Rattle.displib_reader.proofs.operation.place_of.Goals as goal

pub returns-in-Ok : goal.returns-in-Ok
returns-in-Ok c = c.in-Ok.ensures.1 ∙ c.unwrap_or-place.ensures ∙ rw (c.get_index_of.ensures.index, c.len.ensures.len) (name_place c.args.name.now c.args.names.now.keys)
