use Rattle.tree_growth.proofs.Low.{kept_low}
use Rattle.tree_growth.proofs.laws.kept_bounds_are_low.Goals as goal

pub returns : goal.returns
returns c = λ rule node leaf kept bound alive holds counts is. kept_low node alive rule leaf kept bound holds counts is
