-- The operations of a train in an order in which each stands behind all of its successors.
use Rattle.std.specs.Prelude.{◌≡◌, ◌⊎◌, ℕ, suc, ◌+◌, ◌*◌, ◌-◌, ◌<◌, Bool, true, false, List, [], ◌∷◌, ◌++◌, length, take, All, Contains, Some, slice_get, slice_index_or, slice_set}
use Rattle.disp_model.specs.declared.train.Operation.{Operation}
use Rattle.disp_model.specs.Train.{next_of, IsSuccessor}
use Rattle.disp_model.specs.WellFormed.{LeadsTo}
use Rattle.train_orders.specs.declared.order.Search.{Search}

-- the operations go on to operations of the train
abbrev pub IsInside : List Operation → Type 0
IsInside train = All (λ o. All (λ s. s < length train) o.next) train

-- the successors of each operation stand before it, and none stands twice
pub record IsBehind (train : List Operation) (order : List ℕ) : Type 0 where
  pub behind : (i o s : ℕ) → slice_get order i ≡ Some o → IsSuccessor train o s
      → Contains (take i order) s
  pub once : (i o : ℕ) → slice_get order i ≡ Some o → Contains (take i order) o → ⊥
  pub within : (o : ℕ) → Contains order o → o < length train

-- all operations of the train in such an order
pub record IsOrder (train : List Operation) (order : List ℕ) : Type 0 where
  pub is_behind : IsBehind train order
  pub has : (o : ℕ) → o < length train → Contains order o

abbrev pub IsOpened : List Bool → ℕ → Type 0
IsOpened opened o = slice_index_or opened o false ≡ true

-- how many operations the search has not come to
abbrev pub unopened : List Bool → ℕ
unopened [] = 0
unopened (true ∷ opened) = unopened opened
unopened (false ∷ opened) = suc (unopened opened)

-- how far a search has come: on its path a way leads from each operation to each later one, and
-- what it has passed stands in the order
pub record IsSearch (train : List Operation) (opened : List Bool) (passed path order : List ℕ)
    : Type 0 where
  pub opened_long : length opened ≡ length train
  pub passed_long : length passed ≡ length train
  pub known : (o : ℕ) → IsOpened opened o → Contains path o ⊎ Contains order o
  pub path_opened : (o : ℕ) → Contains path o → IsOpened opened o
  pub order_opened : (o : ℕ) → Contains order o → IsOpened opened o
  pub leads : (i j o p : ℕ) → i < j → slice_get path i ≡ Some o → slice_get path j ≡ Some p
      → (n : ℕ) × LeadsTo train n o p
  pub apart : (o : ℕ) → Contains path o → Contains order o → ⊥
  pub are_passed : (o k s : ℕ) → k < slice_index_or passed o 0
      → slice_get (next_of train o) k ≡ Some s → Contains order s
  pub is_behind : IsBehind train order

-- how many successors are not passed yet
abbrev pub unpassed : List Operation → List ℕ → ℕ
unpassed [] passed = 0
unpassed (o ∷ train) [] = 0
unpassed (o ∷ train) (k ∷ passed) = (length o.next - k) + unpassed train passed

-- the steps that are left at most
abbrev pub toil : List Operation → List Bool → List ℕ → List ℕ → ℕ
toil train opened passed path = unpassed train passed + 2 * unopened opened + length path

abbrev pub Searches : List Operation → Search → Type 0
Searches train s = IsSearch train s.opened.items s.passed.items s.path.items s.order.items

abbrev pub toil_of : List Operation → Search → ℕ
toil_of train s = toil train s.opened.items s.passed.items s.path.items

-- the path ends with the operation
abbrev pub IsAt : List ℕ → ℕ → Type 0
IsAt path at = (front : List ℕ) × (path ≡ front ++ at ∷ [])

-- the search comes to an operation
pub record Opens (o : ℕ) (old new : Search) : Type 0 where
  pub opened : new.opened.items ≡ slice_set old.opened.items o true
  pub passed : new.passed.items ≡ old.passed.items
  pub path : new.path.items ≡ old.path.items ++ o ∷ []
  pub order : new.order.items ≡ old.order.items

-- the operation at the end of the path goes to the end of the order
pub record Closes (o : ℕ) (old new : Search) : Type 0 where
  pub opened : new.opened.items ≡ old.opened.items
  pub passed : new.passed.items ≡ old.passed.items
  pub path : old.path.items ≡ new.path.items ++ o ∷ []
  pub order : new.order.items ≡ old.order.items ++ o ∷ []

-- the search goes on, and less is left
pub record SearchSteps (train : List Operation) (old new : Search) : Type 0 where
  pub searches : Searches train new
  pub opened : (o : ℕ) → IsOpened old.opened.items o → IsOpened new.opened.items o
  pub less : toil_of train new < toil_of train old
