-- What of the journal is printed.
use Rattle.std.specs.Prelude.{◌≡◌, ◌⊎◌, ℕ, List, ◌++◌, Option, Result, Ok, Err}
use Rattle.disp_model.specs.declared.entry.Entry.{Entry}
use Rattle.text_puts.specs.Outside.{Outside}
use Rattle.journal_printer.specs.declared.no.PrintNo.{PrintNo}
use Rattle.journal_printer.specs.declared.no.PrintNo.TheVariants.{Memory}
use Rattle.journal_printer.specs.Printing.{Prints}
use Rattle.turn_lock.specs.Known.{StartsWith}
use Rattle.turn_lock.specs.Section.{OwnsPlaces}
use Rattle.shared_board.specs.declared.pass.Pass.{Pass}
use Rattle.shared_board.specs.Board.{own_board, known, lines}
use Rattle.shared_board.specs.Callers.{caller_of}
use Rattle.shared_board.specs.Standing.{SameRole}

-- the first of the entries were printed, and memory ran out behind them
pub record PrintsFront (trees : Option (List ℕ)) (journal : List Entry) (old new : Outside)
    (told : Result (Unit {0}) PrintNo) : Type 0 where
  pub front : List Entry
  pub rest : List Entry
  pub parts : journal ≡ front ++ rest
  pub printed : Prints trees front old new (Ok tt)
  pub told_is : told ≡ Err Memory

-- how the printing of the journal ends: as the printer's does, or for want of memory before it was
-- given more
abbrev pub PrintsJournal : Option (List ℕ) → List Entry → Outside → Outside
    → Result (Unit {0}) PrintNo → Type 0
PrintsJournal trees journal old new told = Prints trees journal old new told
    ⊎ PrintsFront trees journal old new told

-- the pass has looked, and done nothing else
pub record Watches (before after : Pass) : Type 0 where
  pub board_is : own_board after ≡ own_board before
  pub lines_are : lines after ≡ lines before
  pub role : SameRole (known before) (known after)
  pub starts : StartsWith (known after).seen (known before).seen
  pub mine_is : (known after).mine ≡ (known before).mine
  pub owns : OwnsPlaces caller_of (known before) → OwnsPlaces caller_of (known after)
