-- What the components of a train's operations cost at their reaches.
use Rattle.std.specs.Prelude.{◌≡◌, ℕ, zero, suc, ◌+◌, ◌-◌, ◌*◌, ◌^◌, ◌<◌, ◌==◌, min, List, [], ◌∷◌, length, slice_index, sum_by, if◌then◌else◌}
use Rattle.disp_model.specs.declared.train.Operation.{Operation}
use Rattle.disp_model.specs.declared.train.Component.{Component}
use Rattle.disp_model.specs.declared.problem.Problem.{Problem}
use Rattle.disp_model.specs.WellFormed.{most_of}
use Rattle.disp_model.specs.Shares.{cost_along, route_cost}

-- a cost, or the greatest number of 64 bits where it is more
abbrev pub fitted : ℕ → ℕ
fitted cost = min cost (2 ^ 64 - 1)

-- the prices of operations together
abbrev pub priced_along : (ℕ → ℕ) → List ℕ → ℕ
priced_along price [] = 0
priced_along price (o ∷ rest) = price o + priced_along price rest

-- of each operation of a train the price, as far as 64 bits hold it
abbrev pub AreFittedPrices : List Operation → (ℕ → ℕ) → List ℕ → Type 0
AreFittedPrices train price prices = (o : ℕ) → o < length train
    → slice_index prices o ≡ fitted (price o)

-- these components have all that the train's cost along a route
abbrev pub HasOwn : Problem → ℕ → List Component → Type 0
HasOwn problem t components = (reach : ℕ → ℕ) (route : List ℕ)
    → sum_by (cost_along t reach route) components ≡ route_cost problem t reach route

-- twice what a component of a train costs at most, and nothing for one of another
abbrev pub most_own : ℕ → ℕ → Component → ℕ
most_own last t c = if c.train == t then 2 * most_of last c else 0

-- the same for a component of the first trains, and nothing for one of another
abbrev pub most_below : ℕ → ℕ → Component → ℕ
most_below last zero c = 0
most_below last (suc n) c = most_below last n c + most_own last n c

-- twice what the components of the first trains cost at most
abbrev pub most_together : ℕ → List Component → ℕ → ℕ
most_together last components n = sum_by (most_below last n) components
