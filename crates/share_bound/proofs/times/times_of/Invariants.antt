-- the operations behind the place are left
use Rattle.std.proofs.Common.{◌≤◌, length}
use Rattle.share_bound.specs.Times.{base_in, IsEntering}
use Rattle.share_bound.proofs.times.times_of.Given as goal

abbrev pub invariant-loop-place : goal.invariant-loop-place
invariant-loop-place l = (l.place ≤ length l.order)
    × IsEntering l.train (base_in l.bases) l.order l.rows l.place l.times.items

abbrev pub decreases-loop-place : goal.decreases-loop-place
decreases-loop-place l = l.place
