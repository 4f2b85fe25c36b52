use Rattle.tree_growth.proofs.Holding.{grown_holds, grown_keep}
use Rattle.tree_growth.proofs.laws.grown_leaves_keep_bounds.Goals as goal

pub returns : goal.returns
returns c = record {
  leaves = λ problem fixings rule state fragment splits after tree to keeps keep. grown_keep problem fixings rule state fragment splits after tree to keeps keep;
  splits = λ problem fixings rule state fragment splits after tree to keeps. (grown_holds problem fixings rule state fragment splits after tree to keeps).splits_are;
}
