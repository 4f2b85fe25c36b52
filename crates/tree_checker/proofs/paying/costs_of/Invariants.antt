-- what is left to pay from the operations so far
use Rattle.std.proofs.Common.{◌≡◌, ℕ, length}
use Rattle.tree_checker.specs.TrainCosts.{ArePrices}
use Rattle.tree_checker.proofs.Paid.{ArePaid}
use Rattle.tree_checker.proofs.paying.costs_of.Given as goal

abbrev pub invariant-loop-number : goal.invariant-loop-number
invariant-loop-number l =
    (length l.costs.items ≡ length l.operations)
    × ((price : ℕ → ℕ) → ArePrices l.operations price l.prices → ArePaid l.operations l.known.order.items l.known.places.items l.known.demands.items price l.number-index l.costs.items)
