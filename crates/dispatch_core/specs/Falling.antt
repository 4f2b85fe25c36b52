-- Which changes are taken back, and which leaves fall back.
use Rattle.std.specs.Prelude.{◌≡◌, ◌↔◌, ℕ, zero, suc, ◌+◌, ◌<◌, Bool, true, false, List, [], ◌∷◌, Contains, length, Some, slice_get, slice_set}
use Rattle.disp_model.specs.declared.fixing.Change.{Change}
use Rattle.disp_model.specs.declared.fixing.Change.TheVariants.{Fix, Withdraw}
use Rattle.disp_model.specs.declared.fixing.Fixing.{Fixing}
use Rattle.disp_model.specs.declared.problem.Problem.{Problem}
use Rattle.disp_model.specs.Changes.{is_withdrawn}
use Rattle.open_nodes.specs.declared.place.Place.{Place}
use Rattle.open_nodes.specs.States.{State}
use Rattle.open_nodes.specs.Shown.{fallen_at}
use Rattle.dispatch_core.specs.States.{DoesNotHold}

-- the flag of a number, counted from 1, is set
abbrev pub noted_back : List Bool → ℕ → List Bool
noted_back taken zero = taken
noted_back taken (suc place) = slice_set taken place true

-- the flags after a change: that of the one that it takes back is set
abbrev pub noted_by : List Bool → Change → List Bool
noted_by taken (Fix fixing) = taken
noted_by taken (Withdraw number) = noted_back taken number

-- the fixing that a change leaves standing, where it is not taken back
abbrev pub fixings_left_standing : Change → Bool → List Fixing
fixings_left_standing (Fix fixing) true = []
fixings_left_standing (Fix fixing) false = fixing ∷ []
fixings_left_standing (Withdraw number) taken = []

-- the flag of each change is set exactly where it is taken back
abbrev pub AreTakenBack : List Change → List Bool → Type 0
AreTakenBack changes taken = (length taken ≡ length changes)
    × ((i : ℕ) (flag : Bool) → slice_get taken i ≡ Some flag → flag ≡ is_withdrawn (i + 1) changes)

-- of the first numbers, those of leaves that do not hold
abbrev pub AreFailing : Problem → List Fixing → State → ℕ → List ℕ → Type 0
AreFailing problem fixings state count numbers = (n : ℕ) (place : Place) → n < count
    → slice_get state.places n ≡ Some place
    → (Contains numbers n ↔ DoesNotHold problem fixings state n place)

-- the numbers of the leaves that do not hold behind an accepted change: none where it is a fixing
abbrev pub AreFallen : Problem → List Fixing → State → Change → List ℕ → Type 0
AreFallen problem fixings state (Fix fixing) numbers = numbers ≡ []
AreFallen problem fixings state (Withdraw number) numbers =
    AreFailing problem fixings state (length state.places) numbers

-- leaves have fallen back, one after the other
abbrev pub fallen_all : State → List ℕ → State
fallen_all state [] = state
fallen_all state (n ∷ numbers) = fallen_all (fallen_at state n) numbers
