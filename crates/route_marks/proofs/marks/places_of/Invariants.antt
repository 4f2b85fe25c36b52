-- where each operation so far stands
use Rattle.route_marks.proofs.Relaxing.{ArePlaced}
use Rattle.route_marks.proofs.marks.places_of.Given as goal

abbrev pub invariant-loop-place : goal.invariant-loop-place
invariant-loop-place l = ArePlaced l.train l.order l.places.items l.place
