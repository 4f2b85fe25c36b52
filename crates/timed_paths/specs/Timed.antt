-- What a caller sees of `TimedPaths`: each node's lower and upper, and the arcs that are kept.
use Rattle.std.specs.Prelude.{◌≡◌, ℕ, ◌-◌, ◌+◌, List, [], ◌∷◌, ◌++◌, Option, Some, length, take, slice_get}
use Rattle.incremental_paths.specs.declared.arc.Arc.{Arc}
use Rattle.incremental_paths.specs.Network.{Network}
use Rattle.timed_paths.specs.Above.{TellsAbove}

pub record Timed : Type 0 where
  pub lowers : List ℕ
  pub arcs : List Arc
  pub uppers : List (Option ℕ)

-- its paths, of which no node is told as changed
abbrev pub network_of : Timed → Network
network_of timed = record { lowers = timed.lowers; arcs = timed.arcs; changed = [] }

-- one arc more, behind the others
abbrev pub with_one : Timed → ℕ → ℕ → ℕ → Timed
with_one timed from to length = record {
  lowers = timed.lowers;
  arcs = timed.arcs
      ++ record { from = from; to = to; length = length } ∷ [];
  uppers = timed.uppers;
}

-- the last so many arcs are taken away
abbrev pub without_last_timed : Timed → ℕ → Timed
without_last_timed timed count = record {
  lowers = timed.lowers;
  arcs = take (length timed.arcs - count) timed.arcs;
  uppers = timed.uppers;
}

-- for each number of arcs, a node that was above its upper with the first so many
pub record AreLates (lowers : List ℕ) (arcs : List Arc) (uppers : List (Option ℕ))
    (lates : List (Option ℕ)) : Type 0 where
  pub nodes : length uppers ≡ length lowers
  pub long : length lates ≡ length arcs + 1
  pub told : (k : ℕ) (late : Option ℕ) → slice_get lates k ≡ Some late
      → TellsAbove lowers (take k arcs) uppers late
