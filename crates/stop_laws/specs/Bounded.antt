-- A bound of the costs of all plans.
use Rattle.std.specs.Prelude.{ℕ, ◌≤◌, List}
use Rattle.disp_model.specs.declared.fixing.Fixing.{Fixing}
use Rattle.disp_model.specs.declared.plan.Event.{Event}
use Rattle.disp_model.specs.declared.problem.Problem.{Problem}
use Rattle.disp_model.specs.Cost.{cost_of}
use Rattle.disp_model.specs.Valid.{IsValid}

-- each valid plan costs at least the bound
abbrev pub CostsAtLeast : Problem → List Fixing → ℕ → Type 0
CostsAtLeast problem fixings bound =
    (plan : List Event) → IsValid problem fixings plan → bound ≤ cost_of problem.components plan
