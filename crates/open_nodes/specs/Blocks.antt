-- Blocks of 64 places, with the least kept bound of the leaves of each block.
use Rattle.std.specs.Prelude.{◌≡◌, ◌≢◌, ◌⊎◌, ℕ, ◌+◌, ◌*◌, ◌<◌, ◌≤◌, Bool, List, Option, Some, None, length, slice_get, is_some, if◌then◌else◌}
use Rattle.least_bounds.specs.Tournaments.{bound_at}
use Rattle.open_nodes.specs.declared.place.Place.{Place}
use Rattle.open_nodes.specs.declared.place.Kind.TheVariants.{Open}
use Rattle.open_nodes.specs.declared.blocks.Pool.{Pool}
use Rattle.open_nodes.specs.declared.blocks.Pool.TheVariants.{Alive, Inside, Unmarked}
use Rattle.open_nodes.specs.declared.blocks.Blocks.{Blocks}
use Rattle.open_nodes.specs.States.{IsBoundBelow, out_count}

-- a leaf not known dead; one that is in; one that is in, and is not marked for the edition
abbrev pub IsInPool : Pool → Place → Type 0
IsInPool Alive place = place.kind ≡ Open
IsInPool Inside place = (place.kind ≡ Open) × (place.out ≡ None)
IsInPool (Unmarked edition) place = (place.kind ≡ Open) × (place.out ≡ None)
    × (place.examined ≢ Some edition)

-- the place of this number is in the pool
pub record IsPoolAt (pool : Pool) (places : List Place) (number : ℕ) (place : Place) : Type 0 where
  pub there : slice_get places number ≡ Some place
  pub pooled : IsInPool pool place

-- the least kept bound of those in the pool among the places from one number up to another, none
-- where none is in it
pub record IsRangeLeast (pool : Pool) (places : List Place) (from to : ℕ) (least : Option ℕ)
    : Type 0 where
  pub lower : (number : ℕ) (place : Place) → from ≤ number → number < to
      → IsPoolAt pool places number place
      → (bound : ℕ) × (least ≡ Some bound) × (bound ≤ place.bound)
  pub found : (bound : ℕ) → least ≡ Some bound
      → (number : ℕ) × (place : Place) × (from ≤ number) × (number < to)
      × IsPoolAt pool places number place × (place.bound ≡ bound)

-- that of the places of a block
abbrev pub IsBlockLeast : Pool → List Place → ℕ → Option ℕ → Type 0
IsBlockLeast pool places block least = IsRangeLeast pool places (64 * block) (64 * block + 64) least

-- each block has its least bound, and there is one for each place and for the next
pub record AreBlockLeast (pool : Pool) (places : List Place) (bounds : List (Option ℕ))
    : Type 0 where
  pub each : (block : ℕ) → IsBlockLeast pool places block (bound_at bounds block)
  pub long : length places < 64 * length bounds

-- so it is but for one block, and for those from one up to another
pub record AreBlockLeastBut (pool : Pool) (places : List Place) (bounds : List (Option ℕ))
    (home from to : ℕ) : Type 0 where
  pub each : (block : ℕ) → block ≢ home → (block < from) ⊎ (to ≤ block)
      → IsBlockLeast pool places block (bound_at bounds block)
  pub long : length places < 64 * length bounds

-- the bounds are set anew for a block
pub record IsBlockSet (pool : Pool) (places : List Place) (block : ℕ)
    (bounds after : List (Option ℕ)) : Type 0 where
  pub same : (other : ℕ) → other ≢ block → bound_at after other ≡ bound_at bounds other
  pub here : IsBlockLeast pool places block (bound_at after block)
  pub long : length after ≡ length bounds

-- there may be more blocks, without bounds
pub record HaveSameBounds (bounds after : List (Option ℕ)) : Type 0 where
  pub same : (block : ℕ) → bound_at after block ≡ bound_at bounds block
  pub long : length bounds ≤ length after

-- a place of the pool with a kept bound below the best cost, if there is one
pub record IsCandidate (pool : Pool) (places : List Place) (best : Option ℕ) (number : ℕ)
    : Type 0 where
  pub place : Place
  pub at : IsPoolAt pool places number place
  pub below : IsBoundBelow place.bound best

abbrev pub NoneIsCandidate : Pool → List Place → Option ℕ → Type 0
NoneIsCandidate pool places best = (number : ℕ) → IsCandidate pool places best number → ⊥

-- ---- all that is kept of the blocks

pub record AreReckoned (places : List Place) (edition : ℕ) (blocks : Blocks) : Type 0 where
  pub alive : AreBlockLeast Alive places blocks.alive
  pub inside : AreBlockLeast Inside places blocks.inside
  pub unmarked : AreBlockLeast (Unmarked edition) places blocks.unmarked
  pub out : blocks.out ≡ out_count places

pub record HaveRoom (count : ℕ) (blocks : Blocks) : Type 0 where
  pub alive : count < 64 * length blocks.alive
  pub inside : count < 64 * length blocks.inside
  pub unmarked : count < 64 * length blocks.unmarked

pub record AreSameBlocks (blocks after : Blocks) : Type 0 where
  pub alive : HaveSameBounds blocks.alive after.alive
  pub inside : HaveSameBounds blocks.inside after.inside
  pub unmarked : HaveSameBounds blocks.unmarked after.unmarked
  pub out : after.out ≡ blocks.out

-- 1 for a place that is out
abbrev pub one_if_out : Bool → ℕ
one_if_out out = if out then 1 else 0

-- one place has become another, and there are new ones from a number on
pub record HaveChanged (old places : List Place) (number first : ℕ) (before now : Place)
    : Type 0 where
  pub there : slice_get old number ≡ Some before
  pub here : slice_get places number ≡ Some now
  pub first_is : first ≡ length old
  pub longer : length old ≤ length places
  pub same : (other : ℕ) → other ≢ number → other < first
      → slice_get places other ≡ slice_get old other
  pub counts : out_count places + one_if_out (is_some before.out) ≡ out_count old + one_if_out
      (is_some now.out)

-- no new place is in a block before this one
pub record IsFirstBlock (places : List Place) (first block : ℕ) : Type 0 where
  pub within : 64 * block ≤ length places + 64
  pub before : (number : ℕ) → first ≤ number → number < length places → 64 * block ≤ number
