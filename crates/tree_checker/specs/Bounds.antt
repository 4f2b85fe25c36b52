-- What walks and shares cost together, as far as 128 bits hold it.
use Rattle.std.specs.Prelude.{◌≡◌, ℕ, ◌+◌, List, Option, MatchOption}
use Rattle.disp_model.specs.declared.tree.ComponentWalk.{ComponentWalk}
use Rattle.disp_model.specs.declared.tree.TrainWalks.{TrainWalks}
use Rattle.disp_model.specs.Node.{Node}
use Rattle.disp_model.specs.Shares.{SharesCost}
use Rattle.disp_model.specs.Trees.{WalksCost}
use Rattle.node_facts.specs.Costs.{capped}

-- what listed trains cost together, capped, or none where one of them has no share by its walks
pub record IsCappedShares (node : Node) (trains : List TrainWalks) (found : ℕ) : Type 0 where
  pub shares : ℕ
  pub shares_is : SharesCost node trains shares
  pub found_is : found ≡ capped shares

abbrev pub IsSharesOfAll : Node → List TrainWalks → Option ℕ → Type 0
IsSharesOfAll node trains found = MatchOption found
    ((shares : ℕ) → SharesCost node trains shares → ⊥) (IsCappedShares node trains)

-- what walks and listed trains cost together, capped, or none where one of them shows no cost
pub record IsCappedBound (node : Node) (walks : List ComponentWalk) (trains : List TrainWalks)
    (found : ℕ) : Type 0 where
  pub sum : ℕ
  pub sum_is : WalksCost node walks sum
  pub shares : ℕ
  pub shares_is : SharesCost node trains shares
  pub found_is : found ≡ capped (sum + shares)

abbrev pub IsBoundOfAll : Node → List ComponentWalk → List TrainWalks → Option ℕ → Type 0
IsBoundOfAll node walks trains found =
    MatchOption found ((sum shares : ℕ) → WalksCost node walks sum → SharesCost node trains shares
    → ⊥) (IsCappedBound node walks trains)
