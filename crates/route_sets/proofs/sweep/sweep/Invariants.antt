-- what is held of the operations so far, their rows, and whether the last of them has a way
use Rattle.route_sets.proofs.Sweeping.{Turns}
use Rattle.route_sets.proofs.sweep.sweep.Given as goal

abbrev pub invariant-loop-number : goal.invariant-loop-number
invariant-loop-number l = Turns l.train l.asks l.order l.number-index l.held.items l.count l.rows l.holds
