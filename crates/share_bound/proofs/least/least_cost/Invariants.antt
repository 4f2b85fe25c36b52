-- the operations at the places so far are paid for
use Rattle.std.proofs.Common.{◌≡◌, ℕ, length}
use Rattle.share_bound.specs.Prices.{AreFittedPrices}
use Rattle.share_bound.specs.Leasts.{ArePaidTo}
use Rattle.share_bound.proofs.least.least_cost.Given as goal

abbrev pub invariant-loop-place : goal.invariant-loop-place
invariant-loop-place l = record {
  long : length l.costs.items ≡ length l.train;
  paid : (price : ℕ → ℕ) → AreFittedPrices l.train price l.prices
      → ArePaidTo l.train l.order l.rows price l.place l.costs.items;
}
