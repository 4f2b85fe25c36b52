-- What the first pass knows after others were joined into it.
use Rattle.std.specs.Prelude.{◌≡◌, ◌≢◌, ◌⊎◌, ℕ, ◌<◌, ◌≤◌, List, [], ◌∷◌, ◌++◌, All, AllPairs, Contains, length, map}
use Rattle.disp_model.specs.declared.entry.Entry.{Entry}
use Rattle.turn_lock.specs.Known.{Known, StartsWith, joined_known}
use Rattle.turn_lock.specs.Section.{OwnsPlaces}
use Rattle.shared_board.specs.declared.pass.Pass.{Pass}
use Rattle.shared_board.specs.declared.terms.Terms.{Terms}
use Rattle.shared_board.specs.Board.{own_board, known, fetched, lines}
use Rattle.shared_board.specs.Callers.{caller_of}

module _ {E T : Type 0} where
  -- what the first pass knows after these were joined, one after the other
  abbrev pub joined_all : Known E T → List (Known E T) → Known E T
  joined_all v [] = v
  joined_all v (w ∷ ws) = joined_all (joined_known v w) ws

-- The first pass made no entry. Those joined are of callers that differ, took in no other, and have
-- seen a beginning of the history, of which each place is one of theirs.
pub record AreAllJoined (v : Known Entry Terms) (ws : List (Known Entry Terms))
    (history : List Entry) : Type 0 where
  pub none : v.mine ≡ []
  pub own : All (OwnsPlaces caller_of) ws
  pub alone : All (λ w. w.back ≡ []) ws
  pub starts : All (λ w. StartsWith history w.seen) ws
  pub apart : AllPairs (λ w u. w.caller ≢ u.caller) ws
  pub covered : (place : ℕ) → place < length history → Contains (joined_all v ws).mine place

-- the caller of a pass
abbrev pub caller_at : Pass → ℕ
caller_at pass = (known pass).caller

-- these passes were joined into the first one
pub record Joins (before : Pass) (passes : List Pass) (after : Pass) : Type 0 where
  pub board_is : own_board after ≡ own_board before
  pub knows : known after ≡ joined_all (known before) (map known passes)
  pub fetched_is : fetched after ≡ fetched before
  pub lines_are : lines after ≡ lines before
  pub first : (known after).first ≡ (known before).first
  pub caller : (known after).caller ≡ (known before).caller
  pub terms : (known after).terms ≡ (known before).terms
  pub given : (known after).given ≡ (known before).given
  pub back : (known after).back ≡ (known before).back ++ map caller_at passes
  pub starts : StartsWith (known after).seen (known before).seen
  pub each : All (λ pass. StartsWith (known after).seen (known pass).seen) passes
  pub owns : OwnsPlaces caller_of (known before) ⊎ (1 ≤ length passes)
      → OwnsPlaces caller_of (known after)
