-- Nodes whose lengths are above their uppers.
use Rattle.std.specs.Prelude.{◌≡◌, ℕ, ◌<◌, List, Option, Some, None, slice_get, Contains}
use Rattle.incremental_paths.specs.declared.arc.Arc.{Arc}
use Rattle.incremental_paths.specs.Walks.{IsLongestLength}

-- the node has an upper, and is reached later than that
pub record IsAboveUpper (lowers : List ℕ) (arcs : List Arc) (uppers : List (Option ℕ)) (node : ℕ)
    : Type 0 where
  pub upper : ℕ
  pub upper_is : slice_get uppers node ≡ Some (Some upper)
  pub longest : ℕ
  pub longest_is : IsLongestLength lowers arcs node longest
  pub above : upper < longest

-- some node that is above its upper, or none is
abbrev pub TellsAbove : List ℕ → List Arc → List (Option ℕ) → Option ℕ → Type 0
TellsAbove lowers arcs uppers (Some node) = IsAboveUpper lowers arcs uppers node
TellsAbove lowers arcs uppers None = (node : ℕ) → IsAboveUpper lowers arcs uppers node → ⊥

-- some node of these that is above its upper, or none of these is
abbrev pub TellsAmong : List ℕ → List ℕ → List Arc → List (Option ℕ) → Option ℕ → Type 0
TellsAmong nodes lowers arcs uppers (Some node) = IsAboveUpper lowers arcs uppers node
TellsAmong nodes lowers arcs uppers None = (node : ℕ) → Contains nodes node
    → IsAboveUpper lowers arcs uppers node → ⊥

-- some node that is above its upper, or none of the first so many is
abbrev pub TellsBelow : ℕ → List ℕ → List Arc → List (Option ℕ) → Option ℕ → Type 0
TellsBelow count lowers arcs uppers (Some node) = IsAboveUpper lowers arcs uppers node
TellsBelow count lowers arcs uppers None = (node : ℕ) → node < count
    → IsAboveUpper lowers arcs uppers node → ⊥
