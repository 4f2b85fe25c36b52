-- What judging a stated cost answers.
use Rattle.std.specs.Prelude.{◌≡◌, ◌≢◌, ℕ, Option, Some, Result, IfSome, MatchResult}
use Rattle.solution_verifier.specs.declared.fault.Fault.{Fault}
use Rattle.solution_verifier.specs.declared.fault.Fault.TheVariants.{WrongCost}

-- another cost was stated
pub record IsStatedOtherwise (cost : ℕ) (stated : Option ℕ) (fault : Fault) : Type 0 where
  pub claimed : ℕ
  pub stated_is : stated ≡ Some claimed
  pub wrong : claimed ≢ cost
  pub fault_is : fault ≡ WrongCost claimed cost

-- the answer is the cost, which is the one stated if one is, or the fault that another was stated
abbrev pub IsStated : ℕ → Option ℕ → Result ℕ Fault → Type 0
IsStated cost stated answer =
    MatchResult answer (λ c. (c ≡ cost) × IfSome stated (λ s. s ≡ cost))
    (IsStatedOtherwise cost stated)
