-- What a run leaves.
use Rattle.std.specs.Prelude.{◌≡◌, ℕ, ◌<◌, ◌≤◌, List, [], Option, Result, IfSome, length, map, slice_get, Some}
use Rattle.disp_model.specs.declared.entry.Entry.{Entry}
use Rattle.disp_model.specs.declared.problem.Problem.{Problem}
use Rattle.disp_model.specs.declared.settings.Settings.{Settings}
use Rattle.disp_model.specs.History.{newest, mark_of}
use Rattle.disp_model.specs.Legal.{IsLegal}
use Rattle.disp_outside.specs.States.{Counts}
use Rattle.text_puts.specs.Outside.{Outside}
use Rattle.feed_reader.specs.Answered.{AnswersAs}
use Rattle.feed_reader.specs.declared.read.Reading.{Reading}
use Rattle.feed_reader.specs.declared.read.Reading.TheVariants.{Failed}
use Rattle.journal_printer.specs.declared.no.PrintNo.{PrintNo}
use Rattle.shared_board.specs.Onward.{entries_by}
use Rattle.rolling_driver.specs.Printed.{PrintsJournal}
use Rattle.rolling_driver.specs.Status.{IsStatus}

module _ {F : Type 0} where
  -- what clauses see of feeds
  abbrev pub fed : (F → List ℕ) → (F → Option (List (List ℕ))) → List F
      → List (List ℕ × Option (List (List ℕ)))
  fed name lines feeds = map (λ feed. (name feed, lines feed)) feeds

-- a feed: its name, and its lines, where these are told
abbrev pub Fed : Type 0
Fed = List ℕ × Option (List (List ℕ))

-- how the feeds were read, by what the journal has of them: for each feed the entries of its number
-- answer its lines, where these are told, as its reading ended; its reading failed exactly where
-- the count of its name rose; no other caller has lines
pub record AreRead (feeds : List Fed) (readings : List Reading) (old new : Counts)
    (journal : List Entry) : Type 0 where
  pub as_many : length readings ≡ length feeds
  pub answered : (number : ℕ) (feed : Fed) (reading : Reading) → slice_get feeds number ≡ Some feed
      → slice_get readings number ≡ Some reading
      → IfSome feed.1 (λ told. AnswersAs number told (entries_by number journal) reading)
  pub no_other : (other : ℕ) → length feeds ≤ other → entries_by other journal ≡ []
  pub counted : (one : List ℕ) → old one ≤ new one
  pub failed : (number : ℕ) (feed : Fed) → slice_get feeds number ≡ Some feed
      → slice_get readings number ≡ Some Failed → old feed.0 < new feed.0
  pub risen : (one : List ℕ) → old one < new one → (number : ℕ) × (feed : Fed)
      × (slice_get feeds number ≡ Some feed) × (slice_get readings number ≡ Some Failed)
      × (feed.0 ≡ one)

-- the journal is legal, its lines' entries are those of the feeds, it is printed, and the status
-- says how all this ended
pub record IsRolled (problem : Problem) (settings : Settings) (trees : Option (List ℕ))
    (feeds : List Fed) (old new : Outside) (journal : List Entry) (status : ℕ) : Type 0 where
  pub legal : IsLegal problem settings journal
  pub readings : List Reading
  pub read : AreRead feeds readings old.reading new.reading journal
  pub printed : Result (Unit {0}) PrintNo
  pub prints : PrintsJournal trees journal old (record new { reading = old.reading }) printed
  pub status_is : IsStatus (mark_of (newest journal) journal) readings printed status
