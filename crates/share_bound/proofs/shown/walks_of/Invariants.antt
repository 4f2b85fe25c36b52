-- the bases of the operations so far are shown
use Rattle.share_bound.specs.Shown.{ShowsTo}
use Rattle.share_bound.proofs.shown.walks_of.Given as goal

abbrev pub invariant-loop-number : goal.invariant-loop-number
invariant-loop-number l = ShowsTo l.graph l.train l.number l.walks
