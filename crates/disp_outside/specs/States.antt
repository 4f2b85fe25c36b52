-- What shelves and sinks are at one moment.
use Rattle.std.specs.Prelude.{ℕ, List, Option}

-- what a name holds, where that is told: no file, or a file of these bytes
abbrev pub Holdings : Type 0
Holdings = List ℕ → Option (Option (List ℕ))

-- how often something has failed for a name
abbrev pub Counts : Type 0
Counts = List ℕ → ℕ

-- what names hold, and how often readings and puttings of them have failed
pub record ShelfState : Type 0 where
  pub holds : Holdings
  pub reading : Counts
  pub putting : Counts

-- what was written, where that is told, and how often writes have failed
pub record SinkState : Type 0 where
  pub written : Option (List ℕ)
  pub faults : ℕ
