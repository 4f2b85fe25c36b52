-- the pass has come down to the place
use Rattle.std.proofs.Common.{◌≤◌, length}
use Rattle.route_marks.specs.Marks.{IsPass}
use Rattle.route_marks.proofs.marks.passed_of.Given as goal

abbrev pub invariant-loop-place : goal.invariant-loop-place
invariant-loop-place l = (l.place ≤ length l.order) × IsPass l.train l.order l.rows l.place l.pass.sums.items l.pass.reach l.pass.marks.items

abbrev pub decreases-loop-place : goal.decreases-loop-place
decreases-loop-place l = l.place
