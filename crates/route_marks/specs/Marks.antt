-- What a pass keeps of the operations, from the entry on.
use Rattle.std.specs.Prelude.{◌≡◌, ◌↔◌, ◌⊎◌, ℕ, ◌+◌, ◌*◌, ◌^◌, ◌<◌, ◌≤◌, List, [], ◌∷◌, ◌++◌, length, All, Contains, Option, Some, None, slice_get, slice_index, slice_index_or, slice_set, replicate, sum_by, min, MatchOption}
use Rattle.disp_model.specs.declared.train.Operation.{Operation}
use Rattle.disp_model.specs.Train.{duration_of}
use Rattle.route_marks.specs.declared.marks.Mark.{Mark}
use Rattle.route_marks.specs.Ways.{StepsAlong, Goes, Chain, IsLeastOnRows, IsOnEach, last_of}

-- where each operation of the order stands
pub record ArePlaces (train : List Operation) (order places : List ℕ) : Type 0 where
  pub long : length places ≡ length train
  pub at : (k o : ℕ) → slice_get order k ≡ Some o → slice_index places o ≡ k

-- rows of an order: each leads to operations that stand before its own, and the walks from the last
-- operation end in one
pub record IsLaid (train : List Operation) (order : List ℕ) (rows : List (List ℕ)) : Type 0 where
  pub some : 0 < length order
  pub fits : length order < 2 ^ 31
  pub long : length rows ≡ length order
  pub within : (k o : ℕ) → slice_get order k ≡ Some o → o < length train
  pub one_place : (i j o : ℕ) → slice_get order i ≡ Some o → slice_get order j ≡ Some o → i ≡ j
  pub down : (k o s : ℕ) → slice_get order k ≡ Some o → StepsAlong order rows o s → (j : ℕ)
      × (j < k) × (slice_get order j ≡ Some s)
  pub one_end : (o z : ℕ) (front other : List ℕ) → Chain order rows (last_of order) front o
      → Chain order rows (last_of order) other z → Goes order rows o [] → Goes order rows z []
      → o ≡ z

-- the least of a sum that may be known and one that is
abbrev pub lowered : Option ℕ → ℕ → ℕ
lowered None through = through
lowered (Some sum) through = min sum through

-- the sums of a row's operations are lowered to what leads through another
pub record Relaxes (row : List ℕ) (through : ℕ) (old new : List (Option ℕ)) : Type 0 where
  pub long : length new ≡ length old
  pub from : (o n : ℕ) → slice_get new o ≡ Some (Some n) → (slice_get old o ≡ Some (Some n))
      ⊎ (Contains row o × (n ≡ through))
  pub kept : (o n : ℕ) → slice_get old o ≡ Some (Some n) → (m : ℕ)
      × (slice_get new o ≡ Some (Some m)) × (m ≤ n)
  pub lower : (o : ℕ) → Contains row o → (m : ℕ) × (slice_get new o ≡ Some (Some m)) × (m ≤ through)

-- the least of a place and the places of a row's operations
pub record IsLowest (places : List ℕ) (reach : ℕ) (row : List ℕ) (least : ℕ) : Type 0 where
  pub most : least ≤ reach
  pub each : (s : ℕ) → Contains row s → least ≤ slice_index places s
  pub from : (least ≡ reach) ⊎ ((s : ℕ) × Contains row s × (least ≡ slice_index places s))

-- the one operation of a row
abbrev pub IsOnly : List ℕ → Option ℕ → Type 0
IsOnly row next = (s : ℕ) → (next ≡ Some s) ↔ (Contains row s × All (λ q. q ≡ s) row)

-- a mark is made where the furthest step leads to the place
pub record Makes (reach place sum : ℕ) (row : List ℕ) (mark : Mark) : Type 0 where
  pub reached : reach ≡ place
  pub place_is : mark.place ≡ place
  pub sum_is : mark.sum ≡ sum
  pub next_is : IsOnly row mark.next

-- what a mark says of its operation: each walk has it, the least sum up to it, and what follows it
-- on all
pub record IsMark (train : List Operation) (order : List ℕ) (rows : List (List ℕ)) (o : ℕ)
    (mark : Mark) : Type 0 where
  pub place : slice_get order mark.place ≡ Some o
  pub each : IsOnEach order rows (last_of order) o
  pub sum : IsLeastOnRows train order rows (last_of order) o mark.sum
  pub next : (s : ℕ) → (mark.next ≡ Some s)
      ↔ (StepsAlong order rows o s × ((q : ℕ) → StepsAlong order rows o q → q ≡ s))

abbrev pub mark_at : List (Option Mark) → ℕ → Option Mark
mark_at marks o = slice_index_or marks o None

-- the sum that is kept of an operation
abbrev pub sum_at : List (Option ℕ) → ℕ → Option ℕ
sum_at sums o = slice_index_or sums o None

-- the marks of the operations from a place of the order on: of those that each walk has
abbrev pub AreRouteMarks : List Operation → List ℕ → List (List ℕ) → ℕ → List (Option Mark) → Type 0
AreRouteMarks train order rows left marks =
    (k o : ℕ) → slice_get order k ≡ Some o → left ≤ k
    → MatchOption (mark_at marks o) (IsOnEach order rows (last_of order) o → ⊥)
    (IsMark train order rows o)

-- a step from an operation that the pass has come to, onto an operation at a place
pub record Crosses (order : List ℕ) (rows : List (List ℕ)) (left goal : ℕ) : Type 0 where
  pub place : ℕ
  pub op : ℕ
  pub next : ℕ
  pub front : List ℕ
  pub here : slice_get order place ≡ Some op
  pub passed : left ≤ place
  pub chain : Chain order rows (last_of order) front op
  pub steps : StepsAlong order rows op next
  pub onto : slice_get order goal ≡ Some next

-- how far a pass has come: down to a place of the order
pub record IsPass (train : List Operation) (order : List ℕ) (rows : List (List ℕ)) (left : ℕ)
    (sums : List (Option ℕ)) (reach : ℕ) (marks : List (Option Mark)) : Type 0 where
  pub sums_long : length sums ≡ length train
  pub marks_long : length marks ≡ length train
  pub unmarked : (k o : ℕ) → slice_get order k ≡ Some o → k < left → mark_at marks o ≡ None
  pub bound : (o n : ℕ) → slice_get sums o ≡ Some (Some n)
      → n + left * 2 ^ 32 ≤ length order * 2 ^ 32
  pub sound : (o n : ℕ) → slice_get sums o ≡ Some (Some n) → (front : List ℕ)
      × Chain order rows (last_of order) front o × (n ≡ sum_by (duration_of train) front)
  pub starts : (n : ℕ) × (slice_get sums (last_of order) ≡ Some (Some n)) × (n ≡ 0)
  pub known : (k p s : ℕ) (front : List ℕ) → slice_get order k ≡ Some p → left ≤ k
      → Chain order rows (last_of order) front p → StepsAlong order rows p s
      → (n : ℕ) × (slice_get sums s ≡ Some (Some n))
      × (n ≤ sum_by (duration_of train) (front ++ p ∷ []))
  pub far : (k p s j : ℕ) (front : List ℕ) → slice_get order k ≡ Some p → left ≤ k
      → Chain order rows (last_of order) front p → StepsAlong order rows p s
      → slice_get order j ≡ Some s → reach ≤ j
  pub near : (reach + 1 ≡ length order) ⊎ Crosses order rows left reach
  pub are_marks : AreRouteMarks train order rows left marks

-- the sums, the place and the marks of a pass that is at the last operation of the order
pub record MarksEntered (train : List Operation) (order : List ℕ) (sums : List (Option ℕ))
    (reach : ℕ) (marks : List (Option Mark)) : Type 0 where
  pub sums_are : sums ≡ slice_set (replicate (length train) None) (last_of order) (Some 0)
  pub reach_is : reach + 1 ≡ length order
  pub marks_are : marks ≡ replicate (length train) None

-- the marks of all operations
pub record HasMarks (train : List Operation) (order : List ℕ) (steps : List (List ℕ))
    (marks : List (Option Mark)) : Type 0 where
  pub long : length marks ≡ length train
  pub are_marks : AreRouteMarks train order steps 0 marks

-- the least sums of durations up to the operations that some walk has
pub record HasSums (train : List Operation) (order : List ℕ) (rows : List (List ℕ))
    (sums : List (Option ℕ)) : Type 0 where
  pub are_sums : (o : ℕ) → MatchOption (sum_at sums o)
      ((front : List ℕ) → Chain order rows (last_of order) front o → ⊥)
      (IsLeastOnRows train order rows (last_of order) o)
