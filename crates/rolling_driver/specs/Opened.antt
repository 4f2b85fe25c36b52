-- A run that may start.
use Rattle.std.specs.Prelude.{◌≡◌, ℕ, ◌≤◌, Bool, false, List, All, length, map}
use Rattle.disp_model.specs.declared.entry.Entry.{Entry}
use Rattle.disp_model.specs.declared.limits.TheConstants.{MOST_CALLERS}
use Rattle.disp_model.specs.declared.problem.Problem.{Problem}
use Rattle.disp_model.specs.declared.settings.Settings.{Settings}
use Rattle.turn_lock.specs.Known.{Known, first_known}
use Rattle.shared_board.specs.declared.terms.Terms.{Terms}
use Rattle.shared_board.specs.Board.{board_of, own_board, known, fetched}
use Rattle.crew_runs.specs.Seats.{AreSeats, IsSeated, with_searchers}
use Rattle.feed_runs.specs.Readers.{AreReaders, AreReady, with_readers}
use Rattle.rolling_driver.specs.declared.opening.Run.{Run}
use Rattle.rolling_driver.specs.declared.opening.Left.{Left}
use Rattle.rolling_driver.specs.declared.opening.Left.TheVariants.{Feeds, Readers}

-- what the board of a run is given
abbrev pub terms_for : Problem → Settings → ℕ → ℕ → Terms
terms_for problem settings feeds searchers =
    record { problem = problem; settings = settings; feeds = feeds; searchers = searchers }

-- what the first pass knows before it gives passes to feeds
abbrev pub opening : Terms → Known Entry Terms
opening terms = first_known terms.feeds terms

-- and behind that, before it gives passes to searchers
abbrev pub with_feeds : Terms → Known Entry Terms
with_feeds terms = with_readers (opening terms) terms.feeds

module _ {F : Type 0} where
  -- feeds of which nothing was read
  abbrev pub AreNew : (F → Bool) → (F → ℕ) → List F → Type 0
  AreNew has_ended faults feeds = All (λ feed. (has_ended feed ≡ false) × (faults feed ≡ 0)) feeds

  -- the feeds of a run that may not start
  abbrev pub feeds_of : Left F → List F
  feeds_of (Feeds feeds) = feeds.items
  feeds_of (Readers readers) = map (λ r. r.feed) readers.items

  -- each feed and each searcher has its pass, and may begin
  pub record IsOpened (has_ended : F → Bool) (faults : F → ℕ) (problem : Problem)
      (settings : Settings) (workers : ℕ) (feeds : List F) (run : Run F) : Type 0 where
    pub board_is : own_board run.first ≡ board_of run.board
    pub none_fetched : fetched run.first ≡ 0
    pub knows : known run.first ≡ with_searchers
        (with_feeds (terms_for problem settings (length feeds) workers)) workers
    pub feeds_are : map (λ r. r.feed) run.readers.items ≡ feeds
    pub unbroken : All (λ r. faults r.feed ≡ 0) run.readers.items
    pub readers : AreReaders run.board (opening (terms_for problem settings (length feeds) workers))
        run.readers.items
    pub ready : AreReady has_ended run.board run.readers.items
    pub few : length feeds ≤ MOST_CALLERS
    pub as_many : length run.searchers.items ≡ workers
    pub searchers : AreSeats run.board (with_feeds
        (terms_for problem settings (length feeds) workers)) run.searchers.items
    pub seated : All (IsSeated run.board run.crew settings.rule) run.searchers.items
