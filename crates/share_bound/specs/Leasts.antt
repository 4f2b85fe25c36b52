-- What a train costs at least, from the exit back.
use Rattle.std.specs.Prelude.{◌≡◌, ◌≢◌, ◌⊎◌, ℕ, ◌-◌, ◌^◌, ◌<◌, ◌≤◌, List, [], ◌∷◌, length, Some, slice_get, slice_index}
use Rattle.disp_model.specs.declared.train.Operation.{Operation}
use Rattle.disp_model.specs.Node.{Node}
use Rattle.disp_model.specs.Shares.{IsShareOver}
use Rattle.route_marks.specs.Ways.{Goes}
use Rattle.route_marks.specs.Marks.{IsLowest}
use Rattle.share_bound.specs.Prices.{fitted, priced_along}

-- what a way along the rows from an operation on costs at least, as far as 64 bits hold it
pub record IsCheapest (order : List ℕ) (rows : List (List ℕ)) (price : ℕ → ℕ) (o cost : ℕ) : Type 0
  where
    pub there : (rest : List ℕ) × Goes order rows o rest
        × (cost ≡ fitted (priced_along price (o ∷ rest)))
    pub least : (rest : List ℕ) → Goes order rows o rest → cost ≤ priced_along price (o ∷ rest)

-- the least cost of a row's operations, or nothing where there is none
abbrev pub IsPaidBehind : List ℕ → List ℕ → ℕ → Type 0
IsPaidBehind costs row least = ((row ≡ []) × (least ≡ 0))
    ⊎ ((row ≢ []) × IsLowest costs (2 ^ 64 - 1) row least)

-- what is left to pay from the operations at the first places of the order on
pub record ArePaidTo (train : List Operation) (order : List ℕ) (rows : List (List ℕ)) (price : ℕ
    → ℕ) (count : ℕ) (costs : List ℕ) : Type 0 where
  pub long : length costs ≡ length train
  pub each : (k o : ℕ) → k < count → slice_get order k ≡ Some o
      → IsCheapest order rows price o (slice_index costs o)

-- the share of a train over bases, as far as 64 bits hold it
pub record IsFittedShare (node : Node) (t : ℕ) (base : ℕ → ℕ) (found : ℕ) : Type 0 where
  pub share : ℕ
  pub share_is : IsShareOver node t base share
  pub found_is : found ≡ fitted share
