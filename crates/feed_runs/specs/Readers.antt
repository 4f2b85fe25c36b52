-- The feeds of a run.
use Rattle.std.specs.Prelude.{◌≡◌, ◌↔◌, ℕ, zero, suc, ◌<◌, ◌≤◌, Bool, true, false, List, [], ◌∷◌, ◌++◌, All, Contains, Option, Some, IfSome, length, get_or, slice_get}
use Rattle.disp_model.specs.declared.entry.Entry.{Entry}
use Rattle.disp_model.specs.declared.limits.TheConstants.{MOST_CALLERS}
use Rattle.turn_lock.specs.Known.{Known, given_known}
use Rattle.turn_lock.specs.Section.{OwnsPlaces}
use Rattle.shared_board.specs.declared.board.Board.{Board}
use Rattle.shared_board.specs.declared.terms.Terms.{Terms}
use Rattle.shared_board.specs.Board.{board_of, own_board, known, lines}
use Rattle.shared_board.specs.Callers.{caller_of}
use Rattle.shared_board.specs.Calls.{IsFeed}
use Rattle.shared_board.specs.Onward.{entries_by, PassGoesOn}
use Rattle.feed_reader.specs.Answered.{AnswersAs}
use Rattle.feed_reader.specs.declared.read.Reading.TheVariants.{Failed}
use Rattle.feed_runs.specs.declared.reader.Reader.{Reader}

-- so many callers from 0 on
abbrev pub feeds_to : ℕ → List ℕ
feeds_to zero = []
feeds_to (suc count) = feeds_to count ++ count ∷ []

-- after a pass was given to each of so many feeds
abbrev pub with_readers : Known Entry Terms → ℕ → Known Entry Terms
with_readers v count = record v { given = v.given ++ feeds_to count }

-- the first pass of a board for so many feeds, which gave no pass yet and has seen nothing
pub record MayRead (v : Known Entry Terms) (count : ℕ) : Type 0 where
  pub first : v.first ≡ true
  pub terms : Terms
  pub terms_are : v.terms ≡ Some terms
  pub feeds : terms.feeds ≡ count
  pub few : count ≤ MOST_CALLERS
  pub caller : v.caller ≡ count
  pub none_given : v.given ≡ []
  pub none_seen : v.seen ≡ []

module _ {F : Type 0} where
  -- the pass of the feed of this number begins with what the first pass has seen
  pub record IsReader (board : Board) (v : Known Entry Terms) (number : ℕ) (reader : Reader F)
      : Type 0 where
    pub board_is : own_board reader.pass ≡ board_of board
    pub knows : known reader.pass ≡ given_known v number
    pub none : lines reader.pass ≡ 0

  abbrev pub AreReaders : Board → Known Entry Terms → List (Reader F) → Type 0
  AreReaders board v readers = (number : ℕ) (one : Reader F) → slice_get readers number ≡ Some one
      → IsReader board v number one

  -- the feed may be read, and has no entry yet
  pub record IsReady (has_ended : F → Bool) (board : Board) (reader : Reader F) : Type 0 where
    pub board_is : own_board reader.pass ≡ board_of board
    pub feed : IsFeed (known reader.pass)
    pub none : lines reader.pass ≡ 0
    pub none_by : entries_by (known reader.pass).caller (known reader.pass).seen ≡ []
    pub is_open : has_ended reader.feed ≡ false

  abbrev pub AreReady : (F → Bool) → Board → List (Reader F) → Type 0
  AreReady has_ended board readers = All (IsReady has_ended board) readers

  -- the feed was read: the entries of its caller answer its lines, where these are told, as the
  -- reading ended; it failed exactly where its count of faults rose
  pub record HasRead (told : F → Option (List (List ℕ))) (faults : F → ℕ) (name : F → List ℕ)
      (before after : Reader F) : Type 0 where
    pub goes : PassGoesOn before.pass after.pass
    pub owns : OwnsPlaces caller_of (known after.pass)
    pub answered : IfSome (told before.feed)
        (λ all. AnswersAs (known before.pass).caller all
        (entries_by (known before.pass).caller (known after.pass).seen) after.reading)
    pub failed : (after.reading ≡ Failed) ↔ (faults before.feed < faults after.feed)
    pub counted : faults before.feed ≤ faults after.feed
    pub name_is : name after.feed ≡ name before.feed

  -- so it is with each of these
  pub record HaveRead (told : F → Option (List (List ℕ))) (faults : F → ℕ) (name : F → List ℕ)
      (before after : List (Reader F)) : Type 0 where
    pub as_many : length after ≡ length before
    pub each : (place : ℕ) (d : Reader F) → place < length before
        → HasRead told faults name (get_or before place d) (get_or after place d)

  -- feeds were closed: no count falls; one rises only where a feed of that name has failed, and
  -- where one has, its does
  pub record CountsFeeds (name : F → List ℕ) (faults : F → ℕ) (feeds : List F)
      (old new : List ℕ → ℕ) : Type 0 where
    pub counted : (one : List ℕ) → old one ≤ new one
    pub risen : (one : List ℕ) → old one < new one → (feed : F) × Contains feeds feed
        × (name feed ≡ one) × (0 < faults feed)
    pub failed : All (λ feed. 0 < faults feed → old (name feed) < new (name feed)) feeds
