use Rattle.std.proofs.Common.{rules}
use Rattle.incumbent_cell.proofs.Keeps.{closes}
use Rattle.incumbent_cell.proofs.cell.Least.close.Goals as goal

pub returns : goal.returns
returns g c = (
  c.word-last.result,
  search rules,
  closes _ _ _ _ _ c.close_with-closed.ensures.values.2 c.word-last.ensures,
)
