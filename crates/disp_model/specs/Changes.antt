-- The fixings that stand among accepted changes, which are numbered from 1.
use Rattle.std.specs.Prelude.{ℕ, zero, suc, ◌+◌, ◌==◌, List, [], ◌∷◌, Bool, false, Option, Some, None, slice_get, map, if◌then◌else◌}
use Rattle.std.specs.List.{list_any}
use Rattle.disp_model.specs.declared.fixing.Fixing.{Fixing}
use Rattle.disp_model.specs.declared.fixing.Change.{Change}
use Rattle.disp_model.specs.declared.fixing.Change.TheVariants.{Fix, Withdraw}

-- the change takes back the fixing of this number
abbrev pub withdraws : ℕ → Change → Bool
withdraws number (Fix fixing) = false
withdraws number (Withdraw other) = other == number

-- some change takes back the fixing of this number
abbrev pub is_withdrawn : ℕ → List Change → Bool
is_withdrawn number changes = list_any (withdraws number) changes

-- of the changes from a number on: the fixings that none of all changes takes back, each with its
-- number
abbrev pub standing_from : List Change → ℕ → List Change → List (ℕ × Fixing)
standing_from all number [] = []
standing_from all number (Fix fixing ∷ changes) =
    if is_withdrawn number all then standing_from all (number + 1) changes else (number, fixing)
    ∷ standing_from all (number + 1) changes
standing_from all number (Withdraw other ∷ changes) = standing_from all (number + 1) changes

-- the fixings that stand, each with the number of its change
abbrev pub numbered_standing : List Change → List (ℕ × Fixing)
numbered_standing changes = standing_from changes 1 changes

-- the fixings that stand, in order (this project)
abbrev pub standing_of : List Change → List Fixing
standing_of changes = map (λ p. p.1) (numbered_standing changes)

-- the change of a number
abbrev pub change_at : List Change → ℕ → Option Change
change_at changes zero = None
change_at changes (suc n) = slice_get changes n

-- the number of the first of these changes, counted from a number on, that takes back the fixing of
-- a number
abbrev pub withdrawn_from : ℕ → ℕ → List Change → Option ℕ
withdrawn_from taken number [] = None
withdrawn_from taken number (change ∷ changes) = if withdraws taken change then Some number
    else withdrawn_from taken (number + 1) changes
