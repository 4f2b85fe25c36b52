-- the components so far
use Rattle.share_leaves.specs.Beside.{AreWalksBeside}
use Rattle.share_leaves.proofs.walks.walks_beside.Given as goal

abbrev pub invariant-loop-place : goal.invariant-loop-place
invariant-loop-place l = AreWalksBeside l.graph l.trains l.place l.walks
