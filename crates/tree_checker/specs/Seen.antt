-- Numbers that elements of a list have, kept in a set.
use Rattle.std.specs.Prelude.{◌≡◌, ◌↔◌, ℕ, Bool, ◌<◌, List, length, Some, slice_get, IsTrue}
use Rattle.std.specs.BTreeMap.{is_at}
use Rattle.std.specs.List.{list_any}
use Rattle.std.specs.Ordering.{nat_cmp}
use Rattle.disp_model.specs.declared.tree.TrainWalks.{TrainWalks}

-- whether a set has the number
abbrev pub has_number : List ℕ → ℕ → Bool
has_number keys n = list_any (is_at (nat_cmp n)) keys

-- one of the first so many elements has the number
pub record IsNumbered {X : Type 0} (number_of : X → ℕ) (xs : List X) (count n : ℕ) : Type 0 where
  pub place : ℕ
  pub element : X
  pub before : place < count
  pub at : slice_get xs place ≡ Some element
  pub is : number_of element ≡ n

-- the set has the numbers of the first so many elements, and no others
pub record AreSeen {X : Type 0} (number_of : X → ℕ) (xs : List X) (count : ℕ) (keys : List ℕ)
    : Type 0 where
  pub are : (n : ℕ) → IsTrue (has_number keys n) ↔ IsNumbered number_of xs count n

-- the set has the numbers of the listed trains
abbrev pub AreListedTrains : List TrainWalks → List ℕ → Type 0
AreListedTrains trains keys = AreSeen (λ listed. listed.train) trains (length trains) keys
