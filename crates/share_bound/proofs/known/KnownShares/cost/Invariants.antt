-- what the trains so far add up to
use Rattle.share_bound.specs.Bases.{AddUpTo}
use Rattle.share_bound.specs.Known.{HoldFor}
use Rattle.share_bound.proofs.known.KnownShares.cost.Given as goal

abbrev pub invariant-loop-train : goal.invariant-loop-train
invariant-loop-train l = record {
  total : AddUpTo l.graph l.train l.total;
  known : HoldFor l.graph l.self;
}
