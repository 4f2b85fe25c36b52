-- what the trains so far add up to
use Rattle.share_bound.specs.Bases.{AddUpTo}
use Rattle.share_bound.proofs.shares.free_cost.Given as goal

abbrev pub invariant-loop-train : goal.invariant-loop-train
invariant-loop-train l = AddUpTo l.graph l.train l.total
