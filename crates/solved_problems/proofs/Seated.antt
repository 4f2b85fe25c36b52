-- A run of searchers that has ended.
use Rattle.std.proofs.Common.{◌≡◌, ◌≢◌, ◌∙◌, ℕ, zero, suc, ◌<◌, List, [], ◌∷◌, All, Contains, get_or, length, map, sym, ap, subst, arith}
use Rattle.std.specs.Prelude.{Some}
use Rattle.std.proofs.lemmas.List.{get_or-map, length-map}
use Rattle.disp_model.specs.declared.entry.Entry.{Entry}
use Rattle.disp_model.specs.declared.entry.Mark.TheVariants.{Working}
use Rattle.disp_model.specs.declared.fixing.Change.{Change}
use Rattle.disp_model.specs.declared.problem.Problem.{Problem}
use Rattle.disp_model.specs.declared.settings.Settings.{Settings}
use Rattle.disp_model.specs.History.{newest, mark_of}
use Rattle.disp_model.specs.Legal.{IsLegal}
use Rattle.dispatch_core.specs.States.{Core, IsSound}
use Rattle.turn_lock.specs.Known.{Known, StartsWith}
use Rattle.turn_lock.specs.Section.{OwnsPlaces}
use Rattle.shared_board.specs.declared.board.Board.{Board}
use Rattle.shared_board.specs.declared.pass.Pass.{Pass}
use Rattle.shared_board.specs.declared.terms.Terms.{Terms}
use Rattle.shared_board.specs.Board.{known}
use Rattle.shared_board.specs.Callers.{caller_of, terms_of}
use Rattle.joined_passes.specs.Joined.{Joins}
use Rattle.crew_runs.specs.declared.searcher.Searcher.{Searcher}
use Rattle.crew_runs.specs.Seats.{AreSeats, HaveRun, with_searchers}
use Rattle.crew_runs.proofs.Ended.{none_back, owns_at, quiet_at}
use Rattle.solved_problems.specs.Solved.{AreLinesFor, HasSearched, IsSearched, MayBeAsked}
use Rattle.solved_problems.proofs.Ends.{is_searched}

-- what holds of each searcher's pass holds of what these know
all_known : (P : Known Entry Terms → Type 0) (seats : List Searcher) → ((place : ℕ) (d : Searcher) → place < length seats → P (known (get_or seats place d).pass))
    → All P (map known (map (λ s. s.pass) seats))
all_known P [] each place d within = absurd (omega (arith, within))
all_known P (one ∷ seats) each zero d within = each 0 one (omega arith)
all_known P (one ∷ seats) each (suc place) d within =
    all_known P seats (λ k e inside. each (suc k) e (omega (arith, inside))) place d (omega (arith, within))

some_is : (one other : Terms) → Some one ≡ Some other → one ≡ other
some_is one other e = cc

module _ (board : Board) (asked_by given_by joined : Pass) (before after : List Searcher) (terms : Terms) (core : Core)
    (knows : known given_by ≡ with_searchers (known asked_by) (length before)) (owns : OwnsPlaces caller_of (known asked_by))
    (are : AreSeats board (known asked_by) before) (run : HaveRun before after) (joins : Joins given_by (map (λ s. s.pass) after) joined)
    (seen : core.history ≡ (known joined).seen) where
  history_starts : (pass : Pass) → StartsWith (known joined).seen (known pass).seen → StartsWith core.history (known pass).seen
  history_starts pass starts = subst (λ (l : List Entry). StartsWith l (known pass).seen) (sym seen) starts

  searched_at : (place : ℕ) (d : Searcher) → place < length after → HasSearched core.history (known (get_or after place d).pass)
  searched_at place d within =
      let early : place < length before = omega (arith, within, run.as_many) in
      let inside : place < length (map (λ (s : Searcher). s.pass) after) = omega (arith, within, length-map after (λ (s : Searcher). s.pass)) in
      record {
        back = none_back board (known asked_by) before after are run place d early;
        owns = owns_at board (known asked_by) before after are run place d early;
        quiet = quiet_at board (known asked_by) before after are run place d early;
        starts = history_starts (get_or after place d).pass
            (subst (λ (pass : Pass). StartsWith (known joined).seen (known pass).seen) (get_or-map (λ (s : Searcher). s.pass) after place d d.pass within) (joins.each place d.pass inside));
      }

  pub solved : (problem : Problem) (settings : Settings) (asked : List Change) → (known asked_by).terms ≡ Some terms → terms.problem ≡ problem → terms.settings ≡ settings
      → ((place : ℕ) → place < length core.history → Contains (known joined).mine place) → IsSound core → (known joined).terms ≡ Some (terms_of core)
      → mark_of (newest core.history) core.history ≢ Working → MayBeAsked problem [] asked → AreLinesFor 0 1 asked (known asked_by).seen → IsSearched problem settings asked core.history
  solved problem settings asked terms_are problem_is settings_are places sound terms_of_core closed may lines =
      let given_terms : (known given_by).terms ≡ Some terms = ap (λ (k : Known Entry Terms). k.terms) knows ∙ terms_are in
      let same : terms_of core ≡ terms = some_is (terms_of core) terms (sym terms_of_core ∙ (joins.terms ∙ given_terms)) in
      let legal : IsLegal problem settings core.history =
      subst (λ (p : Problem). IsLegal p settings core.history) (ap (λ (t : Terms). t.problem) same ∙ problem_is)
      (subst (λ (s : Settings). IsLegal core.problem s core.history) (ap (λ (t : Terms). t.settings) same ∙ settings_are) sound.legal) in
      is_searched (known given_by) (map known (map (λ (s : Searcher). s.pass) after)) core.history
      (subst (OwnsPlaces caller_of) (sym knows) owns)
      (history_starts given_by joins.starts)
      (all_known (HasSearched core.history) after searched_at)
      (λ place within. subst (λ (k : Known Entry Terms). Contains k.mine place) joins.knows (places place within))
      problem settings asked legal closed may
      (subst (AreLinesFor 0 1 asked) (sym (ap (λ (k : Known Entry Terms). k.seen) knows)) lines)
