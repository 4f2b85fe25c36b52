-- The steps of ways that do what is asked, as rows of an order.
use Rattle.std.specs.Prelude.{◌≡◌, ◌↔◌, ℕ, List, length, Contains, Option, Some, IsSome, slice_get}
use Rattle.disp_model.specs.declared.train.Operation.{Operation}
use Rattle.disp_model.specs.Train.{IsSuccessor}
use Rattle.node_facts.specs.declared.demands.Demand.{Demand}
use Rattle.node_facts.specs.Ways.{MayGo}
use Rattle.route_marks.specs.Marks.{sum_at}

-- a route may go on from an operation to another, which has a way
pub record IsLiveStep (places : List ℕ) (demands : List Demand) (sums : List (Option ℕ)) (o s : ℕ)
    : Type 0 where
  pub may : MayGo places demands o (Some s)
  pub leads : IsSome (sum_at sums s)

-- the one of these operations to which an allowed way may go on
pub record IsOnlyStep (places : List ℕ) (demands : List Demand) (sums : List (Option ℕ)) (o : ℕ)
    (nexts : List ℕ) (s : ℕ) : Type 0 where
  pub there : Contains nexts s
  pub step : IsLiveStep places demands sums o s
  pub alone : (q : ℕ) → Contains nexts q → IsLiveStep places demands sums o q → q ≡ s

-- the rows of the first operations of an order: their successors to which a way may go on
pub record AreRowsTo (count : ℕ) (train : List Operation) (order places : List ℕ)
    (demands : List Demand) (sums : List (Option ℕ)) (rows : List (List ℕ)) : Type 0 where
  pub long : length rows ≡ count
  pub each : (k o : ℕ) (row : List ℕ) → slice_get order k ≡ Some o → slice_get rows k ≡ Some row
      → (s : ℕ) → Contains row s ↔ (IsSuccessor train o s × IsLiveStep places demands sums o s)

abbrev pub AreLiveRows : List Operation → List ℕ → List ℕ → List Demand → List (Option ℕ)
    → List (List ℕ) → Type 0
AreLiveRows train order places demands sums rows =
    AreRowsTo (length order) train order places demands sums rows
