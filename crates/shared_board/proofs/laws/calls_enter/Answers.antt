use Rattle.shared_board.proofs.Entries.{enters_as}
use Rattle.shared_board.proofs.laws.calls_enter.Goals as goal

pub returns : goal.returns
returns c = enters_as
