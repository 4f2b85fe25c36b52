-- the operations so far have bases that are shown
use Rattle.share_leaves.specs.Listed.{ShowsBases}
use Rattle.share_leaves.proofs.listed.walks_to.Given as goal

abbrev pub invariant-loop-number : goal.invariant-loop-number
invariant-loop-number l = ShowsBases l.graph l.train l.number l.bases l.walks
