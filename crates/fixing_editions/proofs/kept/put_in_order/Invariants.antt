-- what is in order, before what stands of the changes that are left
use Rattle.fixing_editions.proofs.Standing.{IsInOrder}
use Rattle.fixing_editions.proofs.kept.put_in_order.Given as goal

abbrev pub invariant-loop-place : goal.invariant-loop-place
invariant-loop-place l = IsInOrder l.changes l.place l.count l.standing.items
