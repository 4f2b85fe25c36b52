-- Which operation each way has and goes on from to another.
use Rattle.std.specs.Prelude.{ℕ, List, Bool, Option, Some, None, false, IsTrue, MatchOption, slice_index_or, slice_set}
use Rattle.disp_model.specs.declared.train.Operation.{Operation}
use Rattle.disp_model.specs.Train.{next_of}
use Rattle.node_facts.specs.declared.demands.Demand.{Demand}
use Rattle.route_marks.specs.Marks.{sum_at}
use Rattle.node_facts.specs.Live.{IsOnlyStep}

-- each way has h, and may go on from it to o alone
pub record Holds (train : List Operation) (places : List ℕ) (demands : List Demand)
    (sums : List (Option ℕ)) (needed : List Bool) (h o : ℕ) : Type 0 where
  pub marked : IsTrue (slice_index_or needed h false)
  pub only : IsOnlyStep places demands sums h (next_of train h) o

abbrev pub noted : List (Option ℕ) → ℕ → Option ℕ → List (Option ℕ)
noted holders h None = holders
noted holders h (Some o) = slice_set holders o (Some h)

-- of each operation one that holds it, or none where none does
abbrev pub AreHolders : List Operation → List ℕ → List Demand → List (Option ℕ) → List Bool
    → List (Option ℕ) → Type 0
AreHolders train places demands sums needed holders =
    (o : ℕ) → MatchOption (sum_at holders o)
    ((h : ℕ) → Holds train places demands sums needed h o → ⊥)
    (λ h. Holds train places demands sums needed h o)
