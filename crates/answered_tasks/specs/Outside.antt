-- The outside as the program sees it at one moment.
use Rattle.std.specs.Prelude.{◌≡◌, ◌≢◌, ◌⊎◌, ℕ, ◌<◌, ◌≤◌, List, length, Option, Some, IfSome, IsSomeAnd}
use Rattle.disp_outside.specs.States.{Holdings, Counts, ShelfState}
use Rattle.text_puts.specs.Outside.{HoldsBytes}
use Rattle.disp_model.specs.declared.limits.TheConstants.{MOST_FILE_BYTES}

-- the name holds a file that is too long, as far as is told
abbrev pub HoldsTooMuch : Holdings → List ℕ → Type 0
HoldsTooMuch holds name = IfSome (holds name)
    (λ file. IsSomeAnd file (λ bytes. MOST_FILE_BYTES < length bytes))

-- the name holds these bytes, as far as is told, and they are not too many to be read
pub record IsFile (holds : Holdings) (name bytes : List ℕ) : Type 0 where
  pub held : HoldsBytes holds name bytes
  pub short : length bytes ≤ MOST_FILE_BYTES

-- readings of one name alone failed, if any did
abbrev pub FailsOfOne : Counts → Counts → Type 0
FailsOfOne old new = (one other : List ℕ) → old one < new one → old other < new other → one ≡ other

-- one name was read: its count does not fall, and where it rises there is a fault; all else stays
pub record ReadsOne (name : List ℕ) (old new : ShelfState) (Fault : Type 0) : Type 0 where
  pub counted : old.reading name ≤ new.reading name
  pub fault : old.reading name < new.reading name → Fault
  pub others : (other : List ℕ) → other ≢ name → new.reading other ≡ old.reading other
  pub puttings : (other : List ℕ) → new.putting other ≡ old.putting other
  pub held : (other : List ℕ) → new.holds other ≡ old.holds other

-- names were read, and no others, up to the first fault: no count falls, and where one rises there
-- is a fault; all else stays
pub record ReadsNames (Given : List ℕ → Type 0) (old new : ShelfState) (Fault : Type 0) :
    Type 0 where
  pub counted : (name : List ℕ) → old.reading name ≤ new.reading name
  pub fault : (name : List ℕ) → old.reading name < new.reading name → Fault
  pub one : FailsOfOne old.reading new.reading
  pub others : (other : List ℕ) → (Given other → ⊥) → new.reading other ≡ old.reading other
  pub puttings : (other : List ℕ) → new.putting other ≡ old.putting other
  pub held : (other : List ℕ) → new.holds other ≡ old.holds other

-- another reading comes behind: what names hold is the same, and no count has fallen
pub record ReadsBehind (before holds : Holdings) (first old : Counts) : Type 0 where
  pub held : (name : List ℕ) → holds name ≡ before name
  pub counted : (name : List ℕ) → first name ≤ old name

-- the name is the one
abbrev pub IsName : List ℕ → List ℕ → Type 0
IsName one name = name ≡ one

-- the name is the one of the file of fixings, if there is one, or that of the solution
abbrev pub IsOneOfTwo : Option (List ℕ) → List ℕ → List ℕ → Type 0
IsOneOfTwo fixings solution name = (fixings ≡ Some name) ⊎ (name ≡ solution)

-- or that of the problem
abbrev pub IsOneOfThree : List ℕ → Option (List ℕ) → List ℕ → List ℕ → Type 0
IsOneOfThree problem fixings solution name = (name ≡ problem) ⊎ IsOneOfTwo fixings solution name

-- the name is the one that is given, if one is
abbrev pub IsGiven : Option (List ℕ) → List ℕ → Type 0
IsGiven given name = given ≡ Some name

-- the name is the one of the problem, or that of the file of fixings, if there is one
abbrev pub IsProblemOrFixings : List ℕ → Option (List ℕ) → List ℕ → Type 0
IsProblemOrFixings problem fixings name = IsName problem name ⊎ IsGiven fixings name

-- the name is the one of the tree, or that of the plan, if there is one
abbrev pub IsTreeOrPlan : List ℕ → Option (List ℕ) → List ℕ → Type 0
IsTreeOrPlan tree plan name = IsName tree name ⊎ IsGiven plan name

-- or that of the file of fixings, if there is one
abbrev pub IsBehindProblem : Option (List ℕ) → List ℕ → Option (List ℕ) → List ℕ → Type 0
IsBehindProblem fixings tree plan name = IsGiven fixings name ⊎ IsTreeOrPlan tree plan name

-- or that of the problem
abbrev pub IsOneOfFour : List ℕ → Option (List ℕ) → List ℕ → Option (List ℕ) → List ℕ → Type 0
IsOneOfFour problem fixings tree plan name = IsName problem name
    ⊎ IsBehindProblem fixings tree plan name
