use Rattle.disp_laws.proofs.WalksHold.{walk_holds, in_time}
use Rattle.disp_laws.proofs.laws.walks_hold.Goals as goal

pub returns : goal.returns
returns c = record {
  starts = λ node plan walk total o j f valid follows is ends at starts. walk_holds node plan walk total o j f valid follows is ends (at, starts);
  uppers = in_time;
}
