-- What the components of a problem cost at most.
use Rattle.std.specs.Prelude.{ℕ, List, sum_by}
use Rattle.disp_model.specs.declared.train.Operation.{Operation}
use Rattle.disp_model.specs.declared.train.Component.{Component}
use Rattle.disp_model.specs.WellFormed.{most_of, horizon}

-- what the components cost at most, at the horizon
abbrev pub greatest_sum : List (List Operation) → List Component → ℕ
greatest_sum trains components = sum_by (most_of (horizon trains)) components
