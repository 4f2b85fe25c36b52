-- What the private fields of `Paths` keep true.
use Rattle.std.specs.Prelude.{◌≡◌, ℕ, ◌<◌, ◌≤◌, ◌^◌, Bool, true, List, Option, length, take, drop, slice_index, All, IfSome}
use Rattle.incremental_paths.specs.declared.arc.Arc.{Arc}
use Rattle.incremental_paths.specs.declared.changes.Change.{Change}
use Rattle.incremental_paths.specs.Threaded.{Threaded}
use Rattle.incremental_paths.specs.Marked.{begins, ends, AreWithin, AreRising, AreMarks}
use Rattle.incremental_paths.specs.Ordered.{is_marked}
use Rattle.incremental_paths.specs.Spread.{AreLengths, WalksFit, restored}

-- but for the first `stale` arcs, what the changes from the arc's start on have replaced are the
-- lengths without it and those behind it
pub record AreUndone (lowers : List ℕ) (arcs : List Arc) (lengths : List ℕ) (trail : List Change)
    (starts : List ℕ) (stale : ℕ) : Type 0 where
  pub sized : length starts ≡ length arcs
  pub nodes : All (λ c. c.node < length lowers) trail
  pub rises : (i j : ℕ) → stale ≤ i → i ≤ j → j < length arcs
      → slice_index starts i ≤ slice_index starts j
  pub within : (i : ℕ) → stale ≤ i → i < length arcs → slice_index starts i ≤ length trail
  pub each : (left : ℕ) → stale ≤ left → left < length arcs
      → AreLengths lowers (take left arcs) (restored lengths (drop (slice_index starts left) trail))

pub record AreKept (lowers : List ℕ) (arcs : List Arc) (begun ended : Threaded) (places : List ℕ)
    (marks : List Bool) (lengths : List ℕ) (trail : List Change) (starts : List ℕ) (stale room : ℕ)
    : Type 0 where
  pub few : length lowers < 2 ^ 32
  pub a_place_each : length places ≡ length lowers
  pub a_mark_each : length marks ≡ length lowers
  pub a_length_each : length lengths ≡ length lowers
  pub room_for_each : room ≡ length lowers
  pub within : AreWithin (length lowers) arcs
  pub rising : AreRising arcs places
  pub begun_is : begun ≡ record { size = length lowers; keys = begins arcs }
  pub ended_is : ended ≡ record { size = length lowers; keys = ends arcs }
  pub longest : AreLengths lowers arcs lengths
  pub fit : WalksFit lowers arcs
  pub undone : AreUndone lowers arcs lengths trail starts stale

-- if the last arc was refused, the marks are of the search that found a way from its end to its
-- beginning
abbrev pub AreOfRefused : List Arc → List ℕ → List Bool → Option Arc → Type 0
AreOfRefused arcs places marks refused =
    IfSome refused (λ arc. AreMarks arcs places arc.to (slice_index places arc.from) marks
    × (is_marked marks arc.from ≡ true))
