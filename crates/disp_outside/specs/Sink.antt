-- What a write does to the bytes that a sink tells.
use Rattle.std.specs.Prelude.{◌≡◌, ℕ, ◌≤◌, List, length, take, Option}
use Rattle.std.specs.Io.KnownBytes.{append_known, Appends}

-- some of the bytes, from the first on, went out behind what was written before
abbrev pub WritesPart : Option (List ℕ) → Option (List ℕ) → List ℕ → Type 0
WritesPart old new bytes = (count : ℕ) × (count ≤ length bytes)
    × (new ≡ append_known old (take count bytes))

-- the same of a writer that may keep its bytes to itself
abbrev pub PutsOut : Option (List ℕ) → Option (List ℕ) → List ℕ → Type 0
PutsOut old new bytes = (count : ℕ) × (count ≤ length bytes) × Appends old new (take count bytes)
