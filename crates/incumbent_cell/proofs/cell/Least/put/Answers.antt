use Rattle.std.proofs.Common.{rules}
use Rattle.incumbent_cell.proofs.Keeps.{puts}
use Rattle.incumbent_cell.proofs.cell.Least.put.Goals as goal

pub fetch_min-requires : goal.fetch_min-requires
fetch_min-requires g c = (search rules, search rules, puts _ _ _ _ c.args.pass.now.live)
