use Rattle.disp_laws.proofs.Shares.{train_there, share_holds}
use Rattle.disp_laws.proofs.Bounds.{share_some, share_same, base_holds}
use Rattle.disp_laws.proofs.laws.shares_hold.Goals as goal

pub returns : goal.returns
returns c = record {
  there = share_some;
  alone = share_same;
  costs = λ node plan t share valid follows is.
      share_holds node plan t is.base share valid follows (train_there node t is.over.there.0 is.over.there.1) (base_holds node plan t share valid follows is) is.over;
}
