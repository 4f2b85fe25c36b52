-- the search goes on, and what it has come to stays
use Rattle.std.proofs.Common.{ℕ}
use Rattle.train_orders.specs.Orders.{Searches, IsOpened, toil_of}
use Rattle.train_orders.proofs.order.finish.Given as goal

abbrev pub invariant-loop-at : goal.invariant-loop-at
invariant-loop-at l = Searches l.train l.search × ((o : ℕ) → IsOpened l.initial.search.opened.items o → IsOpened l.search.opened.items o)

abbrev pub decreases-loop-at : goal.decreases-loop-at
decreases-loop-at l = toil_of l.train l.search
