-- the shares of the trains so far
use Rattle.share_bound.specs.Free.{AreListedTo}
use Rattle.share_bound.proofs.free.listed.Given as goal

abbrev pub invariant-loop-train : goal.invariant-loop-train
invariant-loop-train l = AreListedTo l.graph l.train l.bound
