-- The end of a run.
use Rattle.std.specs.Prelude.{◌≡◌, ℕ, ◌<◌, true, List, ◌++◌, All, Contains, Option, Some, Result, Ok, Err, drop, length, map}
use Rattle.disp_model.specs.declared.entry.Entry.{Entry}
use Rattle.dispatch_core.specs.States.{Core, IsSound}
use Rattle.text_puts.specs.Outside.{Outside}
use Rattle.turn_lock.specs.Known.{Known, StartsWith}
use Rattle.turn_lock.specs.Section.{OwnsPlaces}
use Rattle.shared_board.specs.declared.board.Board.{Board}
use Rattle.shared_board.specs.declared.pass.Pass.{Pass}
use Rattle.shared_board.specs.declared.terms.Terms.{Terms}
use Rattle.shared_board.specs.Board.{board_of, own_board, known}
use Rattle.shared_board.specs.Callers.{caller_of, terms_of}
use Rattle.joined_passes.specs.Joined.{caller_at, joined_all}
use Rattle.journal_printer.specs.declared.no.PrintNo.{PrintNo}
use Rattle.crew_runs.specs.declared.searcher.Searcher.{Searcher}
use Rattle.feed_runs.specs.declared.reader.Reader.{Reader}
use Rattle.feed_runs.specs.Readers.{CountsFeeds}
use Rattle.rolling_driver.specs.Printed.{PrintsJournal}

-- what was printed behind this: all that is left, where all before it was printed, and else nothing
abbrev pub PrintsBehind : Option (List ℕ) → List Entry → Outside → Outside
    → Result (Unit {0}) PrintNo → Result (Unit {0}) PrintNo → Type 0
PrintsBehind trees rest old new (Ok done) told = PrintsJournal trees rest old new told
PrintsBehind trees rest old new (Err why) told = (told ≡ Err why) × (new ≡ old)

-- so it was, whatever readings failed meanwhile
abbrev pub PrintsRest : Option (List ℕ) → List Entry → Outside → Outside → Result (Unit {0}) PrintNo
    → Result (Unit {0}) PrintNo → Type 0
PrintsRest trees rest old new (Ok done) told =
    PrintsJournal trees rest old (record new { reading = old.reading }) told
PrintsRest trees rest old new (Err why) told = (told ≡ Err why)
    × (record new { reading = old.reading } ≡ old)

abbrev pub searcher_passes : List Searcher → List Pass
searcher_passes searchers = map (λ s. s.pass) searchers

module _ {F : Type 0} where
  abbrev pub reader_passes : List (Reader F) → List Pass
  reader_passes readers = map (λ r. r.pass) readers

  -- what the passes of a run know, those of the feeds first
  abbrev pub known_of : List (Reader F) → List Searcher → List (Known Entry Terms)
  known_of readers searchers = map known (reader_passes readers)
      ++ map known (searcher_passes searchers)

  -- the passes of a run may be joined: each that was given is there
  pub record MayEnd (board : Board) (first : Pass) (readers : List (Reader F))
      (searchers : List Searcher) : Type 0 where
    pub board_is : own_board first ≡ board_of board
    pub is_first : (known first).first ≡ true
    pub owns : OwnsPlaces caller_of (known first)
    pub reader_boards : All (λ r. own_board r.pass ≡ board_of board) readers
    pub searcher_boards : All (λ s. own_board s.pass ≡ board_of board) searchers
    pub given : (caller : ℕ) → Contains (known first).given caller
        → Contains ((known first).back ++ map caller_at (reader_passes readers)
        ++ map caller_at (searcher_passes searchers)) caller

  -- the core that was behind the board, whose history is what all passes have seen together
  pub record IsEnded (name : F → List ℕ) (faults : F → ℕ) (trees : Option (List ℕ)) (first : Pass)
      (readers : List (Reader F)) (searchers : List Searcher)
      (printed : Result (Unit {0}) PrintNo) (old new : Outside) (core : Core)
      (told : Result (Unit {0}) PrintNo) : Type 0 where
    pub sound : IsSound core
    pub terms : (known first).terms ≡ Some (terms_of core)
    pub starts : StartsWith core.history (known first).seen
    pub reader_starts : All (λ pass. StartsWith core.history (known pass).seen)
        (reader_passes readers)
    pub searcher_starts : All (λ pass. StartsWith core.history (known pass).seen)
        (searcher_passes searchers)
    pub covered : (place : ℕ) → place < length core.history
        → Contains (joined_all (known first) (known_of readers searchers)).mine place
    pub counts : CountsFeeds name faults (map (λ r. r.feed) readers) old.reading new.reading
    pub prints : PrintsRest trees (drop (length (known first).seen) core.history) old new printed
        told
