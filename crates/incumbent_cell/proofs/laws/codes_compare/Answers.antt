use Rattle.incumbent_cell.proofs.Codes.{tells_no_worse}
use Rattle.incumbent_cell.proofs.laws.codes_compare.Goals as goal

pub returns : goal.returns
returns c = tells_no_worse
