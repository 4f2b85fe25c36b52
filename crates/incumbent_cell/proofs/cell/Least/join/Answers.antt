use Rattle.std.proofs.Common.{rules}
use Rattle.incumbent_cell.proofs.Keeps.{joins}
use Rattle.incumbent_cell.proofs.cell.Least.join.Goals as goal

pub join_seat-requires : goal.join_seat-requires
join_seat-requires g c = (search rules, search rules, search rules, search rules, joins _ _ _ _ (search rules))
