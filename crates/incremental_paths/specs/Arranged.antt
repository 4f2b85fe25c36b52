-- Arcs that are ready for a search along them.
use Rattle.std.specs.Prelude.{◌≡◌, ℕ, Bool, List, length}
use Rattle.incremental_paths.specs.declared.arc.Arc.{Arc}
use Rattle.incremental_paths.specs.Threaded.{Threaded}
use Rattle.incremental_paths.specs.Marked.{begins, ends, AreWithin, AreRising}

-- over n nodes, each with a place and a mark, the arcs rise, and are threaded by both of their ends
pub record AreArranged (n : ℕ) (arcs : List Arc) (begun ended : Threaded) (places : List ℕ)
    (marks : List Bool) : Type 0 where
  pub a_place_each : length places ≡ n
  pub a_mark_each : length marks ≡ n
  pub within : AreWithin n arcs
  pub rising : AreRising arcs places
  pub begun_is : begun ≡ record { size = n; keys = begins arcs }
  pub ended_is : ended ≡ record { size = n; keys = ends arcs }
