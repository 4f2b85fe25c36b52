-- The rule of a lock: one history, which the stored state has while the lock is free, and of which
-- each pass has seen a beginning.
use Rattle.std.specs.Prelude.{◌≡◌, ℕ, ◌<◌, ◌≤◌, ◌⊎◌, true, false, List, [], Option, Some, Contains, length, slice_get, slice_index}
use mathlib.Core.Option.{some}
use lib.ListN.{get_elem?}
use Rattle.atomic_table.specs.Table.{State}
use Rattle.turn_lock.specs.declared.pass.View.{View}
use Rattle.turn_lock.specs.Known.{StartsWith, AreApart}
use Rattle.turn_lock.specs.Section.{IsFreshFrom}

module _ {E T : Type 0} (named : E → Option ℕ) where
  -- what a view says is so
  pub record Fits (history : List E) (v : View E T) : Type 0 where
    pub seen : StartsWith history v.seen
    pub count : v.count ≤ length history
    pub held : v.holding ≡ true → v.held ≡ history
    pub within : (place : ℕ) → Contains v.mine place → place < length v.seen
    pub names : (place : ℕ) (e : E) (caller : ℕ) → Contains v.mine place
        → slice_get history place ≡ Some e → named e ≡ Some caller → (caller ≡ v.caller)
        ⊎ Contains v.back caller
    pub others_back : v.first ≡ false → v.back ≡ []
    pub spent : v.spent ≡ true → (v.mine ≡ []) × (v.holding ≡ false)
    pub met_apart : AreApart v.met.kept v.met.brought
    pub met_one : StartsWith v.met.longer v.met.shorter
    pub met_fresh : IsFreshFrom named v.caller v.met.past v.met.longer

  -- Each entry was made by one pass, and each pass that is not spent is of one caller: the first
  -- pass, or one that it gave and has not back
  pub record Roster (history : List E) (views : List (View E T)) : Type 0 where
    pub fits : (seat : ℕ) (v : View E T) → get_elem? views seat ≡ some v → Fits history v
    pub covered : (place : ℕ) → place < length history → (seat : ℕ) × (v : View E T)
        × (get_elem? views seat ≡ some v) × Contains v.mine place
    pub apart : (seat other : ℕ) (v w : View E T) (place : ℕ) → get_elem? views seat ≡ some v
        → get_elem? views other ≡ some w → Contains v.mine place → Contains w.mine place
        → seat ≡ other
    pub first_seat : ℕ
    pub first : View E T
    pub first_there : get_elem? views first_seat ≡ some first
    pub is_first : first.first ≡ true
    pub first_lives : first.spent ≡ false
    pub only_first : (seat : ℕ) (v : View E T) → get_elem? views seat ≡ some v → v.first ≡ true
        → seat ≡ first_seat
    pub given : (seat : ℕ) (v : View E T) → get_elem? views seat ≡ some v → v.first ≡ false
        → v.spent ≡ false → Contains first.given v.caller
    pub out : (seat : ℕ) (v : View E T) → get_elem? views seat ≡ some v → v.first ≡ false
        → v.spent ≡ false → Contains first.back v.caller → ⊥
    pub one_each : (seat other : ℕ) (v w : View E T) → get_elem? views seat ≡ some v
        → get_elem? views other ≡ some w → v.first ≡ false → w.first ≡ false → v.spent ≡ false
        → w.spent ≡ false → v.caller ≡ w.caller → seat ≡ other
    pub own_apart : Contains first.given first.caller → ⊥
    pub back_given : (caller : ℕ) → Contains first.back caller → Contains first.given caller

module _ {E T : Type 0} where
  -- one seat holds while the lock is 1, and none while it is 0
  pub record Held (lock : ℕ) (views : List (View E T)) : Type 0 where
    pub nobody : lock ≡ 0 → (seat : ℕ) (v : View E T) → get_elem? views seat ≡ some v
        → v.holding ≡ false
    pub somebody : lock ≡ 1 → (seat : ℕ) × (v : View E T) × (get_elem? views seat ≡ some v)
        × (v.holding ≡ true)
    pub one : (seat other : ℕ) (v w : View E T) → get_elem? views seat ≡ some v
        → get_elem? views other ≡ some w → v.holding ≡ true → w.holding ≡ true → seat ≡ other

module _ {E T : Type 0} where
  -- each pass that is not spent knows these terms
  abbrev pub Agree : T → List (View E T) → Type 0
  Agree agreed views = (seat : ℕ) (v : View E T) → get_elem? views seat ≡ some v → v.spent ≡ false
      → v.terms ≡ Some agreed

module _ {S E T : Type 0} (entries : S → List E) (named : E → Option ℕ) (terms : S → T)
    (kept : S → Type 0) where
  pub record Ordered (s : State (Option S) (View E T)) : Type 0 where
    pub history : List E
    pub agreed : T
    pub two_words : length s.words ≡ 2
    pub one_slot : length s.homes ≡ 1
    pub binary : slice_index s.words 0 ≤ 1
    pub counted : slice_index s.words 1 ≡ length history
    pub home : slice_index s.words 0 ≡ 0 → (state : S)
        × (get_elem? s.homes 0 ≡ some (some (Some state))) × (entries state ≡ history)
        × (terms state ≡ agreed) × kept state
    pub held : Held (slice_index s.words 0) s.views
    pub roster : Roster named history s.views
    pub agree : Agree agreed s.views
