-- The bases of a train's operations, and its share over them.
use Rattle.std.specs.Prelude.{◌≡◌, ℕ, ◌<◌, ◌≤◌, List, length, slice_index, sum_by}
use Rattle.disp_model.specs.WellFormed.{horizon}
use Rattle.disp_model.specs.Node.{Node}
use Rattle.disp_model.specs.Shares.{IsBase, IsShare, SharesAddUp}
use Rattle.share_bound.specs.Prices.{most_own, most_together}

-- the base of each of a train's first operations
pub record AreBasesTo (node : Node) (t count : ℕ) (bases : List ℕ) : Type 0 where
  pub long : length bases ≡ count
  pub are : (o : ℕ) → o < count → IsBase node (record { train = t; op = o }) (slice_index bases o)
  pub within : (o : ℕ) → o < count → slice_index bases o ≤ horizon node.problem.trains

-- the share of a train, which is no more than twice what its components cost at most
pub record IsShareWithin (node : Node) (t found : ℕ) : Type 0 where
  pub share : IsShare node t found
  pub within : found ≤ sum_by (most_own (horizon node.problem.trains) t) node.problem.components

-- the shares of the first trains together, within twice what their components cost at most
pub record AddUpTo (node : Node) (n total : ℕ) : Type 0 where
  pub adds : SharesAddUp node n total
  pub within : total ≤ most_together (horizon node.problem.trains) node.problem.components n
