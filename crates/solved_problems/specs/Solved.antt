-- The history of a problem that is solved with changes asked before the search.
use Rattle.std.specs.Prelude.{◌≡◌, ◌≢◌, ℕ, suc, ◌+◌, ◌≤◌, List, [], ◌∷◌, ◌++◌, All}
use Rattle.disp_model.specs.declared.entry.Entry.{Entry}
use Rattle.disp_model.specs.declared.entry.Entry.TheVariants.{Asked, Unread, Shown, Grown, Published, Settled, Stopped}
use Rattle.disp_model.specs.declared.entry.Mark.TheVariants.{Working}
use Rattle.disp_model.specs.declared.fixing.Change.{Change}
use Rattle.disp_model.specs.declared.problem.Problem.{Problem}
use Rattle.disp_model.specs.declared.reply.Reply.{Reply}
use Rattle.disp_model.specs.declared.settings.Settings.{Settings}
use Rattle.disp_model.specs.History.{changes_of, newest, mark_of}
use Rattle.disp_model.specs.Legal.{IsLegal}
use Rattle.fixing_files.specs.Files.{IsTaken, TakesInTurn}
use Rattle.search_workers.specs.Searched.{IsOfSearch}
use Rattle.turn_lock.specs.Known.{Known, StartsWith}
use Rattle.turn_lock.specs.Section.{OwnsPlaces}
use Rattle.shared_board.specs.declared.pass.Pass.{Pass}
use Rattle.shared_board.specs.declared.terms.Terms.{Terms}
use Rattle.shared_board.specs.Board.{known, lines}
use Rattle.shared_board.specs.Callers.{caller_of, lines_of}
use Rattle.shared_board.specs.Onward.{entries_by}

-- the entry of the line of this number of the feed 0, which asks for a change that is taken
abbrev pub IsAskedLine : ℕ → Change → Entry → Type 0
IsAskedLine number change (Asked feed line other reply) =
    (feed ≡ 0) × (line ≡ number) × (other ≡ change) × IsTaken reply
IsAskedLine number change (Unread feed line why) = ⊥
IsAskedLine number change (Shown feed line standing) = ⊥
IsAskedLine number change (Grown searcher edition seen node splits) = ⊥
IsAskedLine number change (Published edition plan cost) = ⊥
IsAskedLine number change (Settled edition verdict tree) = ⊥
IsAskedLine number change (Stopped edition spent bound) = ⊥

-- the entries of lines numbered from this on, which ask for these changes, each once and in order
abbrev pub AreAskedLines : ℕ → List Change → List Entry → Type 0
AreAskedLines number [] [] = Unit {0}
AreAskedLines number [] (entry ∷ entries) = ⊥
AreAskedLines number (change ∷ asked) [] = ⊥
AreAskedLines number (change ∷ asked) (entry ∷ entries) =
    IsAskedLine number change entry × AreAskedLines (suc number) asked entries

-- a legal history: first the lines that ask for these changes, then entries of a search, which
-- closed the newest edition
pub record IsSearched (problem : Problem) (settings : Settings) (asked : List Change)
    (history : List Entry) : Type 0 where
  pub legal : IsLegal problem settings history
  pub lines : List Entry
  pub search : List Entry
  pub parts : history ≡ lines ++ search
  pub asks : AreAskedLines 1 asked lines
  pub of_search : All IsOfSearch search
  pub closed : mark_of (newest history) history ≢ Working

-- the changes are taken, one after the other, behind those of a history
abbrev pub MayBeAsked : Problem → List Entry → List Change → Type 0
MayBeAsked problem history asked =
    (changes : List Change) × TakesInTurn problem (changes_of history) asked changes

-- ---- for private clauses

-- the entry of the line of this caller and number, which asks for this change, whatever the reply
abbrev pub IsLineFor : ℕ → ℕ → Change → Entry → Type 0
IsLineFor caller number change (Asked feed line other reply) =
    (feed ≡ caller) × (line ≡ number) × (other ≡ change)
IsLineFor caller number change (Unread feed line why) = ⊥
IsLineFor caller number change (Shown feed line standing) = ⊥
IsLineFor caller number change (Grown searcher edition seen node splits) = ⊥
IsLineFor caller number change (Published edition plan cost) = ⊥
IsLineFor caller number change (Settled edition verdict tree) = ⊥
IsLineFor caller number change (Stopped edition spent bound) = ⊥

-- so are these entries, for these changes, of lines numbered from this on
abbrev pub AreLinesFor : ℕ → ℕ → List Change → List Entry → Type 0
AreLinesFor caller number [] [] = Unit {0}
AreLinesFor caller number [] (entry ∷ entries) = ⊥
AreLinesFor caller number (change ∷ asked) [] = ⊥
AreLinesFor caller number (change ∷ asked) (entry ∷ entries) =
    IsLineFor caller number change entry × AreLinesFor caller (suc number) asked entries

-- the caller's next line asked for the change
pub record AsksNext (before after : Pass) (change : Change) : Type 0 where
  pub reply : Reply
  pub counted : lines after ≡ lines before + 1
  pub entered : entries_by (known before).caller (known after).seen
      ≡ entries_by (known before).caller (known before).seen
      ++ Asked (known before).caller (lines before + 1) change reply ∷ []

-- a searcher's pass: it has no lines
pub record HasSearched (history : List Entry) (w : Known Entry Terms) : Type 0 where
  pub back : w.back ≡ []
  pub owns : OwnsPlaces caller_of w
  pub quiet : lines_of w.caller w.seen ≡ 0
  pub starts : StartsWith history w.seen
