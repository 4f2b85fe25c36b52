-- What a plan costs, and which cost is least.
use Rattle.std.specs.Prelude.{◌≡◌, ℕ, ◌+◌, ◌-◌, ◌*◌, ◌≤◌, List, sum_by, nat_le, if◌then◌else◌}
use Rattle.std.specs.Option.{option_map_or}
use Rattle.disp_model.specs.declared.plan.Event.{Event}
use Rattle.disp_model.specs.declared.train.Component.{Component}
use Rattle.disp_model.specs.declared.fixing.Fixing.{Fixing}
use Rattle.disp_model.specs.declared.problem.Problem.{Problem}
use Rattle.disp_model.specs.Plan.{start_of}
use Rattle.disp_model.specs.Valid.{IsValid}

-- what a component costs where its operation starts at t: the coefficient for each unit of time
-- past the threshold, and the increment from the threshold on (format; at the threshold is this
-- project's reading)
abbrev pub cost_at : Component → ℕ → ℕ
cost_at c t = c.coeff * (t - c.threshold) + (if nat_le c.threshold t then c.increment else 0)

-- what a component costs in a plan: nothing where its operation is not run
abbrev pub cost_in : List Event → Component → ℕ
cost_in plan c = option_map_or (cost_at c) (start_of plan c.train c.operation) 0

-- the cost of a plan
abbrev pub cost_of : List Component → List Event → ℕ
cost_of components plan = sum_by (cost_in plan) components

-- some valid plan costs c, and none costs less
pub record IsLeast (problem : Problem) (fixings : List Fixing) (c : ℕ) : Type 0 where
  pub reached : (plan : List Event) × IsValid problem fixings plan
      × (cost_of problem.components plan ≡ c)
  pub none_below : (plan : List Event) → IsValid problem fixings plan
      → c ≤ cost_of problem.components plan

-- no plan is valid
abbrev pub IsInfeasible : Problem → List Fixing → Type 0
IsInfeasible problem fixings = (plan : List Event) → IsValid problem fixings plan → ⊥
