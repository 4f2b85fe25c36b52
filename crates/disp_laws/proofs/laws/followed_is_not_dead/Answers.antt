use Rattle.disp_laws.proofs.WalksHold.{not_dead}
use Rattle.disp_laws.proofs.laws.followed_is_not_dead.Goals as goal

pub returns : goal.returns
returns c = not_dead
