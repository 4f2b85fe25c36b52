-- When operations are entered at the earliest, over ways along rows of an order of a train's
-- operations.
use Rattle.std.specs.Prelude.{◌≡◌, ℕ, ◌+◌, ◌*◌, ◌^◌, ◌≤◌, max, List, [], ◌∷◌, ◌++◌, length, Option, Some, None, slice_get, slice_index, slice_index_or, unwrap_or}
use Rattle.disp_model.specs.declared.train.Operation.{Operation}
use Rattle.disp_model.specs.Train.{duration_of}
use Rattle.route_marks.specs.Ways.{StepsAlong, Chain, last_of}

-- the base of an operation that is kept in a list
abbrev pub base_in : List ℕ → ℕ → ℕ
base_in bases o = slice_index bases o

-- when a way that is entered at a time has run these operations, none of them before its base
abbrev pub left_after : (ℕ → ℕ) → List Operation → ℕ → List ℕ → ℕ
left_after base train time [] = time
left_after base train time (p ∷ front) = left_after base train
    (max time (base p) + duration_of train p) front

-- of each operation the least time at which a way from the entry, the last of the order, enters it
pub record AreTimes (train : List Operation) (base : ℕ → ℕ) (order : List ℕ) (rows : List (List ℕ))
    (times : List (Option ℕ)) : Type 0 where
  pub sound : (o x : ℕ) → slice_get times o ≡ Some (Some x) → (front : List ℕ)
      × Chain order rows (last_of order) front o × (x ≡ left_after base train 0 front)
  pub least : (o : ℕ) (front : List ℕ) → Chain order rows (last_of order) front o → (x : ℕ)
      × (slice_get times o ≡ Some (Some x)) × (x ≤ left_after base train 0 front)

-- so far as the operations are left that stand at a place of the order or behind it
pub record IsEntering (train : List Operation) (base : ℕ → ℕ) (order : List ℕ)
    (rows : List (List ℕ)) (left : ℕ) (times : List (Option ℕ)) : Type 0 where
  pub long : length times ≡ length train
  pub begun : slice_get times (last_of order) ≡ Some (Some 0)
  pub sound : (o x : ℕ) → slice_get times o ≡ Some (Some x) → (front : List ℕ)
      × Chain order rows (last_of order) front o × (x ≡ left_after base train 0 front)
  pub known : (k p s : ℕ) (front : List ℕ) → slice_get order k ≡ Some p → left ≤ k
      → Chain order rows (last_of order) front p → StepsAlong order rows p s
      → (x : ℕ) × (slice_get times s ≡ Some (Some x))
      × (x ≤ left_after base train 0 (front ++ p ∷ []))
  pub small : (o x : ℕ) → slice_get times o ≡ Some (Some x)
      → x + left * 2 ^ 32 ≤ 2 ^ 62 + length order * 2 ^ 32

-- when an operation is reached, by when it is entered
abbrev pub reach_in : List (Option ℕ) → (ℕ → ℕ) → ℕ → ℕ
reach_in times base o = max (unwrap_or (slice_index_or times o None) 0) (base o)
