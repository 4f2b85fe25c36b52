use Rattle.std.proofs.Common.{rules}
use Rattle.incumbent_cell.proofs.Keeps.{finds}
use Rattle.incumbent_cell.proofs.cell.Least.least.Goals as goal

pub load-found-requires : goal.load-found-requires
load-found-requires g c = (search rules, search rules, finds _ _ _ c.args.pass.now.live)
