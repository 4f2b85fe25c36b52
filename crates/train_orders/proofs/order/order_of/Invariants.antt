-- the search has come to the operations so far, and none waits
use Rattle.std.proofs.Common.{◌≡◌, ◌<◌, ℕ, []}
use Rattle.train_orders.specs.Orders.{Searches, IsOpened}
use Rattle.train_orders.proofs.order.order_of.Given as goal

abbrev pub invariant-loop-start : goal.invariant-loop-start
invariant-loop-start l = Searches l.train l.search × (l.search.path.items ≡ []) × ((o : ℕ) → o < l.start → IsOpened l.search.opened.items o)
