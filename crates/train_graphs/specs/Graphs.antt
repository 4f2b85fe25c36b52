-- The entries, exits and cycles of trains, and the first train that has not one of each, or has a
-- cycle.
use Rattle.std.specs.Prelude.{◌≡◌, ℕ, ◌+◌, ◌<◌, ◌==◌, List, [], ◌∷◌, Bool, not, length, Option, Some, None, nat_eq, slice_get, slice_set, count_by, All, true, if◌then◌else◌}
use Rattle.std.specs.List.{list_any, range_with_len}
use Rattle.disp_model.specs.declared.train.Operation.{Operation}
use Rattle.disp_model.specs.WellFormed.{LeadsTo}

-- some operation names this one as a successor
abbrev pub is_named : List Operation → ℕ → Bool
is_named train o = list_any (λ p. list_any (nat_eq o) p.next) train

-- how many operations are successors of none
abbrev pub entry_count : List Operation → ℕ
entry_count train = count_by (λ o. not (is_named train o)) (range_with_len 0 (length train))

-- how many operations have no successor
abbrev pub exit_count : List Operation → ℕ
exit_count train = count_by (λ p. length p.next == 0) train

-- the first train, counted from t on, whose count is not 1, and that count
abbrev pub first_not_one : (List Operation → ℕ) → ℕ → List (List Operation) → Option (ℕ × ℕ)
first_not_one count t [] = None
first_not_one count t (train ∷ trains) = if count train == 1 then first_not_one count (t + 1) trains
    else Some (t, count train)

-- some way leads from the operation back to it
abbrev pub IsOnCycle : List Operation → ℕ → Type 0
IsOnCycle train o = (n : ℕ) × LeadsTo train n o o

abbrev pub HasNoCycle : List Operation → Type 0
HasNoCycle train = (o : ℕ) → IsOnCycle train o → ⊥

-- the operation lies on a cycle, and no lesser one does
pub record IsLeastOnCycle (train : List Operation) (o : ℕ) : Type 0 where
  pub on : IsOnCycle train o
  pub least : (p : ℕ) → p < o → IsOnCycle train p → ⊥

-- the train of this number has a cycle, on which the operation is the least, and no train before
-- has one
pub record IsFirstLoop (trains : List (List Operation)) (t o : ℕ) : Type 0 where
  pub train : List Operation
  pub at : slice_get trains t ≡ Some train
  pub least : IsLeastOnCycle train o
  pub before : (k : ℕ) (other : List Operation) → k < t → slice_get trains k ≡ Some other
      → HasNoCycle other

-- each train has one entry, one exit and no cycle
pub record HaveGraphs (trains : List (List Operation)) : Type 0 where
  pub entries : first_not_one entry_count 0 trains ≡ None
  pub exits : first_not_one exit_count 0 trains ≡ None
  pub no_cycle : All HasNoCycle trains

-- each successor is an operation of the train
abbrev pub AreInside : List Operation → Type 0
AreInside train = All (λ p. All (λ s. s < length train) p.next) train

-- ---- for private clauses

-- the marks, and those of these numbers
abbrev pub marked_all : List Bool → List ℕ → List Bool
marked_all marks [] = marks
marked_all marks (n ∷ ns) = marked_all (slice_set marks n true) ns
