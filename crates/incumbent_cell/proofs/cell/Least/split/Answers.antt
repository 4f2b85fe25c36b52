use Rattle.std.proofs.Common.{rules}
use Rattle.incumbent_cell.proofs.Keeps.{splits}
use Rattle.incumbent_cell.proofs.cell.Least.split.Goals as goal

pub split_seat-seat-requires : goal.split_seat-seat-requires
split_seat-seat-requires g c = (search rules, search rules, splits _ _ c.args.pass.now.live)
