use Rattle.disp_laws.proofs.LongestWalks.{longest_walk}
use Rattle.disp_laws.proofs.Bounds.{bound_some, bound_same}
use Rattle.disp_laws.proofs.laws.longest_walks_exist.Goals as goal

pub returns : goal.returns
returns c = record { longest = longest_walk; bound = bound_some; alone = bound_same }
