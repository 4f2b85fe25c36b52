-- The outside as a program sees it at one moment.
use Rattle.std.specs.Prelude.{◌≡◌, ℕ, List, Option, Some, IfSome}
use Rattle.std.specs.Io.KnownBytes.{append_known}
use Rattle.disp_outside.specs.States.{Holdings, Counts, ShelfState, SinkState}

-- what names hold, how often readings and puttings of them have failed, how often writes have
-- failed, and what was written, where that is told
pub record Outside : Type 0 where
  pub holds : Holdings
  pub reading : Counts
  pub putting : Counts
  pub faults : ℕ
  pub written : Option (List ℕ)

-- of the states of a shelf and a sink
abbrev pub outside : ShelfState → SinkState → Outside
outside shelf sink = record {
  holds = shelf.holds;
  reading = shelf.reading;
  putting = shelf.putting;
  faults = sink.faults;
  written = sink.written;
}

-- the shelf's part
abbrev pub shelf_of : Outside → ShelfState
shelf_of at = record {
  holds = at.holds;
  reading = at.reading;
  putting = at.putting;
}

-- the name holds these bytes, as far as is told
abbrev pub HoldsBytes : Holdings → List ℕ → List ℕ → Type 0
HoldsBytes holds name bytes = IfSome (holds name) (λ file. file ≡ Some bytes)

-- all of the text went out
abbrev pub Writes : Option (List ℕ) → Option (List ℕ) → List ℕ → Type 0
Writes old new text = new ≡ append_known old text
