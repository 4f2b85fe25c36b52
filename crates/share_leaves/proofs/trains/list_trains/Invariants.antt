-- the trains so far
use Rattle.share_bound.specs.Bases.{AddUpTo}
use Rattle.share_bound.specs.Known.{HoldFor}
use Rattle.share_leaves.specs.Listed.{AreListed}
use Rattle.share_leaves.proofs.trains.list_trains.Given as goal

abbrev pub invariant-loop-train : goal.invariant-loop-train
invariant-loop-train l = record {
  listed : AreListed l.graph l.train l.listed;
  total : AddUpTo l.graph l.train l.total;
  known : HoldFor l.graph l.known;
}
