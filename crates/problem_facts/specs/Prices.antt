-- What the components of a train's operations cost where these are reached.
use Rattle.std.specs.Prelude.{ℕ, ◌==◌, ◌&&◌, List, sum_by, if◌then◌else◌}
use Rattle.disp_model.specs.declared.train.Component.{Component}
use Rattle.disp_model.specs.Cost.{cost_at}

-- what a component costs at an operation of a train, or nothing where it is of another
abbrev pub price_there : ℕ → (ℕ → ℕ) → ℕ → Component → ℕ
price_there t reach o c = if (c.train == t) && (o == c.operation) then cost_at c (reach c.operation)
    else 0

-- what the components of an operation cost together
abbrev pub own_price : List Component → ℕ → (ℕ → ℕ) → ℕ → ℕ
own_price components t reach o = sum_by (price_there t reach o) components
