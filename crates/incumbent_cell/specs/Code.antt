-- Codes as numbers.
use Rattle.std.specs.Prelude.{◌≡◌, ℕ, ◌+◌, ◌-◌, ◌*◌, ◌/◌, ◌%◌, ◌<◌, ◌≤◌, ◌⊎◌, ◌==◌, min, if◌then◌else◌, Option, Some, None}
use Rattle.incumbent_cell.specs.declared.packing.TheConstants.{NEWEST, SATURATED, SPAN, OPENING}

-- the code of a new cell: edition 0, and no cost
abbrev pub opening_code : ℕ
opening_code = OPENING

-- newer editions come first, and in one edition smaller costs; from SATURATED on a cost is as good
-- as none
abbrev pub packed : ℕ → ℕ → ℕ
packed edition cost = (NEWEST - edition) * SPAN + min cost SATURATED

abbrev pub edition_in : ℕ → ℕ
edition_in code = NEWEST - code / SPAN

-- what is told of a cost: nothing from SATURATED on
abbrev pub told_cost : ℕ → Option ℕ
told_cost cost = if min cost SATURATED == SATURATED then None else Some cost

abbrev pub code_cost : ℕ → Option ℕ
code_cost code = told_cost (code % SPAN)

-- the first edition is newer, or it is the second one and the cost, as far as codes tell, no
-- greater
abbrev pub IsNoWorse : ℕ → ℕ → ℕ → ℕ → Type 0
IsNoWorse edition cost other_edition other_cost =
    (other_edition < edition) ⊎ ((other_edition ≡ edition)
    × (min cost SATURATED ≤ min other_cost SATURATED))

-- the cost of a code, as far as codes tell, is no greater than this one
abbrev pub IsNoMore : Option ℕ → ℕ → Type 0
IsNoMore (Some found) cost = found ≤ cost
IsNoMore None cost = SATURATED ≤ cost

-- a code tells of a newer edition than this one, or of this one and a cost that is no greater
abbrev pub TellsNoWorse : ℕ → ℕ → ℕ → Type 0
TellsNoWorse code edition cost = (edition < edition_in code)
    ⊎ ((edition_in code ≡ edition) × IsNoMore (code_cost code) cost)
