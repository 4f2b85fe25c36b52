-- What is new in a core.
use Rattle.std.specs.Prelude.{◌≡◌, ◌↔◌, ℕ, List, IsTrue, drop, length}
use Rattle.disp_model.specs.declared.entry.Entry.{Entry}
use Rattle.disp_model.specs.History.{edition_of, newest}
use Rattle.dispatch_core.specs.Replies.{open_feed_count}
use Rattle.dispatch_core.specs.States.{Core}
use Rattle.shared_board.specs.declared.news.Edition.{Edition}
use Rattle.shared_board.specs.declared.news.News.{News}

-- all feeds of the core have ended, and all its searchers have left
abbrev pub IsEnded : Core → Type 0
IsEnded core = (open_feed_count core.ended ≡ 0) × (open_feed_count core.left ≡ 0)

-- the entries behind the first ones, whether all is ended, and how many entries there are
pub record IsNewsOf (core : Core) (fetched : ℕ) (found : News × ℕ) : Type 0 where
  pub entries : found.0.entries ≡ drop fetched core.history
  pub ended : IsTrue found.0.ended ↔ IsEnded core
  pub count : found.1 ≡ length core.history

-- the newest edition of a history: its number and its fixings
pub record IsEditionIn (history : List Entry) (edition : Edition) : Type 0 where
  pub number : edition.number ≡ newest history
  pub fixings : edition.fixings ≡ edition_of history
