-- The searchers of a run.
use Rattle.std.specs.Prelude.{◌≡◌, ℕ, zero, suc, ◌+◌, ◌<◌, ◌≤◌, true, List, [], ◌∷◌, ◌++◌, Contains, Some, length, get_or, slice_get}
use Rattle.disp_model.specs.declared.entry.Entry.{Entry}
use Rattle.disp_model.specs.declared.settings.Rule.{Rule}
use Rattle.turn_lock.specs.Known.{Known, given_known}
use Rattle.turn_lock.specs.Section.{OwnsPlaces}
use Rattle.shared_board.specs.declared.board.Board.{Board}
use Rattle.shared_board.specs.declared.terms.Terms.{Terms}
use Rattle.shared_board.specs.Board.{board_of, own_board, known, lines}
use Rattle.shared_board.specs.Callers.{caller_of, searcher_caller}
use Rattle.search_crew.specs.declared.crew.Crew.{Crew}
use Rattle.search_crew.specs.Crews.{IsHandOf}
use Rattle.search_crew.specs.Working.{IsAtWork, KeepsOn}
use Rattle.crew_runs.specs.declared.searcher.Searcher.{Searcher}

-- the searcher is one of the crew, with a pass to the board, which goes by this rule
abbrev pub IsSeated : Board → Crew → Rule → Searcher → Type 0
IsSeated board crew rule searcher = IsAtWork board rule 0 searcher.pass
    × IsHandOf crew searcher.hand

-- calls of the searcher came between, and it knows the places of its entries
pub record HasRun (before after : Searcher) : Type 0 where
  pub keeps : KeepsOn before.pass after.pass
  pub owns : OwnsPlaces caller_of (known after.pass)

-- so it is with each of these
pub record HaveRun (before after : List Searcher) : Type 0 where
  pub as_many : length after ≡ length before
  pub each : (place : ℕ) (d : Searcher) → place < length before
      → HasRun (get_or before place d) (get_or after place d)

-- so many callers from the first searcher's on
abbrev pub searchers_to : ℕ → List ℕ
searchers_to zero = []
searchers_to (suc count) = searchers_to count ++ searcher_caller count ∷ []

-- after a pass was given to each of so many searchers
abbrev pub with_searchers : Known Entry Terms → ℕ → Known Entry Terms
with_searchers v count = record v { given = v.given ++ searchers_to count }

-- the first pass of a board for so many searchers, none of which has a pass yet
pub record MaySeat (v : Known Entry Terms) (count : ℕ) : Type 0 where
  pub first : v.first ≡ true
  pub terms : Terms
  pub terms_are : v.terms ≡ Some terms
  pub enough : count ≤ terms.searchers
  pub few : count ≤ 64
  pub caller : v.caller < searcher_caller 0
  pub none_given : (caller : ℕ) → Contains v.given caller → caller < searcher_caller 0

-- the pass of the searcher of this number begins with what the first pass has seen
pub record IsSeat (board : Board) (v : Known Entry Terms) (place : ℕ) (searcher : Searcher)
    : Type 0 where
  pub board_is : own_board searcher.pass ≡ board_of board
  pub knows : known searcher.pass ≡ given_known v (searcher_caller place)
  pub none : lines searcher.pass ≡ 0

abbrev pub AreSeats : Board → Known Entry Terms → List Searcher → Type 0
AreSeats board v searchers = (place : ℕ) (one : Searcher) → slice_get searchers place ≡ Some one
    → IsSeat board v place one
