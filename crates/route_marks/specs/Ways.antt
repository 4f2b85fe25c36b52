-- Ways along the rows that a sweep keeps of the operations of an order.
use Rattle.std.specs.Prelude.{◌≡◌, ℕ, ◌-◌, ◌≤◌, List, [], ◌∷◌, length, Contains, Some, slice_get, slice_index, sum_by}
use Rattle.disp_model.specs.declared.train.Operation.{Operation}
use Rattle.disp_model.specs.Train.{duration_of}

-- the operation goes on to the other: its row has it
pub record StepsAlong (order : List ℕ) (rows : List (List ℕ)) (o s : ℕ) : Type 0 where
  pub place : ℕ
  pub row : List ℕ
  pub here : slice_get order place ≡ Some o
  pub row_is : slice_get rows place ≡ Some row
  pub has : Contains row s

-- step by step, up to an operation that goes on to none
abbrev pub Goes : List ℕ → List (List ℕ) → ℕ → List ℕ → Type 0
Goes order rows o [] = (s : ℕ) → StepsAlong order rows o s → ⊥
Goes order rows o (s ∷ rest) = StepsAlong order rows o s × Goes order rows s rest

-- so from e on
abbrev pub IsRowWalk : List ℕ → List (List ℕ) → ℕ → List ℕ → Type 0
IsRowWalk order rows e [] = ⊥
IsRowWalk order rows e (p ∷ rest) = (e ≡ p) × Goes order rows p rest

-- step by step from o to z, with these operations before z
abbrev pub Chain : List ℕ → List (List ℕ) → ℕ → List ℕ → ℕ → Type 0
Chain order rows o [] z = o ≡ z
Chain order rows o (p ∷ front) z = (o ≡ p)
    × ((s : ℕ) × StepsAlong order rows p s × Chain order rows s front z)

-- the least sum of durations from e up to but not including o
pub record IsLeastOnRows (train : List Operation) (order : List ℕ) (rows : List (List ℕ))
    (e o least : ℕ) : Type 0 where
  pub reached : (front : List ℕ) × Chain order rows e front o
      × (least ≡ sum_by (duration_of train) front)
  pub at_most : (front : List ℕ) → Chain order rows e front o
      → least ≤ sum_by (duration_of train) front

-- each walk from e has the operation
abbrev pub IsOnEach : List ℕ → List (List ℕ) → ℕ → ℕ → Type 0
IsOnEach order rows e o = (route : List ℕ) → IsRowWalk order rows e route → Contains route o

-- the last operation of an order
abbrev pub last_of : List ℕ → ℕ
last_of order = slice_index order (length order - 1)
