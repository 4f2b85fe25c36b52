-- What reads add to what was read before.
use Rattle.std.specs.Prelude.{◌≡◌, ℕ, ◌+◌, ◌<◌, List, ◌++◌, length, Option, IfSome}
use Rattle.std.specs.Io.KnownBytes.{Consumes}

-- what a reader lost is what stands behind the bytes that were there
abbrev pub LosesRead : Option (List ℕ) → Option (List ℕ) → List ℕ → List ℕ → Type 0
LosesRead left_old left_new old new = (more : List ℕ) × (new ≡ old ++ more)
    × Consumes left_old left_new more

-- with what a reader has left there are more than this many
abbrev pub IsPast : ℕ → ℕ → Option (List ℕ) → Type 0
IsPast limit count left = IfSome left (λ rest. limit < count + length rest)
