-- What a walk's component costs, as far as 128 bits hold it.
use Rattle.std.specs.Prelude.{◌≡◌, ℕ, ◌-◌, ◌^◌, min, List, Option, MatchOption}
use Rattle.disp_model.specs.declared.tree.ComponentWalk.{ComponentWalk}
use Rattle.disp_model.specs.Node.{Node}
use Rattle.disp_model.specs.Trees.{WalkCosts, WalksCost}

-- a cost, or the greatest number of 128 bits where it is more
abbrev pub capped : ℕ → ℕ
capped cost = min cost (2 ^ 128 - 1)

-- what a walk costs, capped, or none where it is no walk to its component
pub record IsCapped (node : Node) (w : ComponentWalk) (found : ℕ) : Type 0 where
  pub cost : ℕ
  pub costs : WalkCosts node w cost
  pub found_is : found ≡ capped cost

abbrev pub IsWalkCost : Node → ComponentWalk → Option ℕ → Type 0
IsWalkCost node w found = MatchOption found ((cost : ℕ) → WalkCosts node w cost → ⊥)
    (IsCapped node w)

-- what walks cost together, capped, or none where one is no walk to its component
pub record IsCappedSum (node : Node) (walks : List ComponentWalk) (found : ℕ) : Type 0 where
  pub sum : ℕ
  pub sum_is : WalksCost node walks sum
  pub found_is : found ≡ capped sum

abbrev pub IsCostOfAll : Node → List ComponentWalk → Option ℕ → Type 0
IsCostOfAll node walks found = MatchOption found ((sum : ℕ) → WalksCost node walks sum → ⊥)
    (IsCappedSum node walks)
