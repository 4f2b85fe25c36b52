-- What calls leave of a pass, one after the other.
use Rattle.std.specs.Prelude.{◌≡◌, ℕ, List, filter}
use Rattle.disp_model.specs.declared.entry.Entry.{Entry}
use Rattle.turn_lock.specs.Known.{StartsWith}
use Rattle.turn_lock.specs.Section.{OwnsPlaces}
use Rattle.shared_board.specs.declared.pass.Pass.{Pass}
use Rattle.shared_board.specs.Board.{own_board, known, fetched}
use Rattle.shared_board.specs.Callers.{caller_of, is_line_of}
use Rattle.shared_board.specs.Standing.{SameRole}

-- the entries of a caller's lines, in order
abbrev pub entries_by : ℕ → List Entry → List Entry
entries_by caller history = filter (is_line_of caller) history

-- calls came between: the pass is of the same board, in the same role, and has seen no less; its
-- places are those of its caller if they were
pub record PassGoesOn (before after : Pass) : Type 0 where
  pub board_is : own_board after ≡ own_board before
  pub fetched_is : fetched after ≡ fetched before
  pub role : SameRole (known before) (known after)
  pub starts : StartsWith (known after).seen (known before).seen
  pub owns : OwnsPlaces caller_of (known before) → OwnsPlaces caller_of (known after)
