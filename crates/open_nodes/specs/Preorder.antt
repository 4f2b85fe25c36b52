-- The places in preorder, by the links from each to the next.
use Rattle.std.specs.Prelude.{◌≡◌, ◌≢◌, ◌⊎◌, ℕ, zero, suc, List, [], ◌∷◌, Option, Some, None, length, slice_get}
use Rattle.open_nodes.specs.declared.place.Place.{Place}
use Rattle.open_nodes.specs.States.{State, IsWanted}

abbrev pub link_of : Option Place → Option ℕ
link_of None = None
link_of (Some place) = place.next

abbrev pub next_at : List Place → ℕ → Option ℕ
next_at places n = link_of (slice_get places n)

-- the numbers along the links, at most so many
abbrev pub order : Option ℕ → ℕ → List Place → List ℕ
order None most places = []
order (Some n) zero places = []
order (Some n) (suc most) places = n ∷ order (next_at places n) most places

abbrev pub preorder : List Place → List ℕ
preorder places = order (Some 0) (length places) places

-- what is sought: a wanted leaf, where an edition is given one that is not marked for it
abbrev pub IsSought : Option ℕ → Option ℕ → Place → Type 0
IsSought best None place = IsWanted best place
IsSought best (Some edition) place = IsWanted best place × (place.examined ≢ Some edition)

-- what is found at this number, with its kept bound
pub record IsFoundAt (places : List Place) (best edition : Option ℕ) (n : ℕ)
    (found : Option (ℕ × ℕ)) : Type 0 where
  pub place : Place
  pub there : slice_get places n ≡ Some place
  pub sought : IsSought best edition place
  pub found_is : found ≡ Some (n, place.bound)

abbrev pub IsNotAt : List Place → Option ℕ → Option ℕ → ℕ → Type 0
IsNotAt places best edition n = (place : Place) → slice_get places n ≡ Some place
    → IsSought best edition place → ⊥

-- the first of these numbers at which one stands and its kept bound, none where there is none
abbrev pub IsFirstSought : List Place → Option ℕ → Option ℕ → List ℕ → Option (ℕ × ℕ) → Type 0
IsFirstSought places best edition [] found = found ≡ None
IsFirstSought places best edition (n ∷ numbers) found = IsFoundAt places best edition n found
    ⊎ (IsNotAt places best edition n × IsFirstSought places best edition numbers found)

-- the first wanted leaf that is not marked for the newest edition
abbrev pub IsFirstUnmarked : State → Option ℕ → Option ℕ → Type 0
IsFirstUnmarked state best None = IsFirstSought state.places best (Some state.edition)
    (preorder state.places) None
IsFirstUnmarked state best (Some n) = (bound : ℕ)
    × IsFirstSought state.places best (Some state.edition) (preorder state.places) (Some (n, bound))
