-- Searchers that have run.
use Rattle.std.proofs.Common.{◌≡◌, ◌∙◌, ℕ, zero, suc, ◌+◌, ◌<◌, ◌≤◌, ⊎_elim, List, [], ◌∷◌, ◌++◌, All, Contains, get_or, length, map, take, drop, refl, sym, ap, subst, arith}
use Rattle.std.specs.Prelude.{Some}
use Rattle.std.proofs.lemmas.List.{get_or-map, length-map, take_at}
use Rattle.std.proofs.lemmas.List.Elements.{Contains-append_cases}
use Rattle.std.proofs.lemmas.Option.{slice_get-get_or}
use Rattle.plain_values.proofs.Lists.{contains_one}
use Rattle.disp_model.specs.declared.entry.Entry.{Entry}
use Rattle.disp_model.specs.declared.settings.Rule.{Rule}
use Rattle.turn_lock.specs.Known.{Known}
use Rattle.turn_lock.specs.Section.{OwnsPlaces}
use Rattle.shared_board.specs.declared.board.Board.{Board}
use Rattle.shared_board.specs.declared.pass.Pass.{Pass}
use Rattle.shared_board.specs.declared.terms.Terms.{Terms}
use Rattle.shared_board.specs.Board.{board_of, problem_of, own_board, known, lines}
use Rattle.shared_board.specs.Callers.{caller_of, lines_of, searcher_caller}
use Rattle.joined_passes.specs.Joined.{caller_at}
use Rattle.search_crew.specs.declared.crew.Crew.{Crew}
use Rattle.search_crew.specs.declared.crew.Hand.{Hand}
use Rattle.search_crew.specs.Crews.{IsHandOf}
use Rattle.crew_runs.specs.declared.searcher.Searcher.{Searcher}
use Rattle.crew_runs.specs.Seats.{AreSeats, HaveRun, IsSeat, IsSeated, searchers_to}

-- what is written through a slice of the whole stands in its place
pub written : {X : Type 0} (count : ℕ) (before after : List X) → length after ≡ length before → length before ≡ count → take count (after ++ drop (length after) before) ≡ after
written count before after same counted = take_at after (drop (length after) before) count (same ∙ counted)

seat_at : (board : Board) (v : Known Entry Terms) (seats : List Searcher) (place : ℕ) (d : Searcher) → AreSeats board v seats → place < length seats → IsSeat board v place (get_or seats place d)
seat_at board v seats place d are within = are place (get_or seats place d) (slice_get-get_or seats place d within)

-- seats of a crew, with passes that the first one gave, are at work
pub all_seated : (board : Board) (crew : Crew) (rule : Rule) (v : Known Entry Terms) (terms : Terms) (hands : List Hand) (seats : List Searcher) → v.terms ≡ Some terms
    → terms.problem ≡ problem_of board → terms.settings.rule ≡ rule → length seats ≤ terms.searchers → AreSeats board v seats → map (λ s. s.hand) seats ≡ hands
    → All (IsHandOf crew) hands → All (IsSeated board crew rule) seats
all_seated board crew rule v terms hands seats terms_are problem rule_is few are same of_crew place d within =
    let one = get_or seats place d in let is = seat_at board v seats place d are within in
    let own : (known one.pass).caller ≡ searcher_caller place = ap (λ (k : Known Entry Terms). k.caller) is.knows in
    let many : length hands ≡ length seats = sym (ap (λ (l : List Hand). length l) same) ∙ length-map seats (λ (s : Searcher). s.hand) in (
      record {
        board_is = is.board_is;
        searcher = record {
          terms = terms;
          terms_are = ap (λ (k : Known Entry Terms). k.terms) is.knows ∙ terms_are;
          above = omega (arith, own);
          within = omega (arith, own, within, few);
        };
        problem = problem;
        rule_is = rule_is;
        edition_is = omega arith;
      },
      subst (IsHandOf crew) (ap (λ (l : List Hand). get_or l place d.hand) (sym same) ∙ get_or-map (λ (s : Searcher). s.hand) seats place d d.hand within)
          (of_crew place d.hand (omega (arith, many, within))),
    )

module _ (board : Board) (v : Known Entry Terms) (before after : List Searcher) (are : AreSeats board v before) (run : HaveRun before after) (place : ℕ) (d : Searcher) (within : place < length before) where
  abbrev one : Searcher
  one = get_or after place d

  pub board_at : own_board one.pass ≡ board_of board
  board_at = (run.each place d within).keeps.goes.board_is ∙ (seat_at board v before place d are within).board_is

  pub caller_is : (known one.pass).caller ≡ searcher_caller place
  caller_is = (run.each place d within).keeps.goes.role.caller ∙ ap (λ (k : Known Entry Terms). k.caller) (seat_at board v before place d are within).knows

  pub none_back : (known one.pass).back ≡ []
  none_back = (run.each place d within).keeps.goes.role.back ∙ ap (λ (k : Known Entry Terms). k.back) (seat_at board v before place d are within).knows

  pub owns_at : OwnsPlaces caller_of (known one.pass)
  owns_at = (run.each place d within).owns

  -- no line is a searcher's
  pub quiet_at : lines_of (known one.pass).caller (known one.pass).seen ≡ 0
  quiet_at = quiet one.pass ((run.each place d within).keeps.lines_are ∙ (seat_at board v before place d are within).none)
    where
      quiet : (pass : Pass) → lines pass ≡ 0 → lines_of (known pass).caller (known pass).seen ≡ 0
      quiet pass none = sym (pass.lines_are ∙ ap (λ (n : ℕ). lines_of n (known pass).seen) pass.caller_is) ∙ none

-- each caller that was given a pass is that of one
place_of_caller : (count caller : ℕ) → Contains (searchers_to count) caller → (place : ℕ) × (place < count) × (caller ≡ searcher_caller place)
place_of_caller zero caller (k, within, is) = absurd (omega arith)
place_of_caller (suc count) caller there = ⊎_elim
    (λ (old : Contains (searchers_to count) caller). let found = place_of_caller count caller old in (found.0, omega (arith, found.1), found.2))
    (λ (new : Contains (searcher_caller count ∷ []) caller). (count, omega arith, contains_one (searcher_caller count) caller new))
    (Contains-append_cases (searchers_to count) (searcher_caller count ∷ []) caller there)

-- the caller at a place is that of the searcher there
callers_at : (searchers : List Searcher) (place d : ℕ) → place < length searchers
    → (e : Searcher) × (get_or (map caller_at (map (λ s. s.pass) searchers)) place d ≡ (known (get_or searchers place e).pass).caller)
callers_at [] place d within = absurd (omega arith)
callers_at (one ∷ searchers) zero d within = (one, refl)
callers_at (one ∷ searchers) (suc place) d within = callers_at searchers place d (omega (arith, within))

pub all_back : (board : Board) (v : Known Entry Terms) (before after : List Searcher) → AreSeats board v before → HaveRun before after → (caller : ℕ) → Contains (searchers_to (length before)) caller
    → Contains (map caller_at (map (λ s. s.pass) after)) caller
all_back board v before after are run caller there =
    let found = place_of_caller (length before) caller there in
    let inside : found.0 < length after = omega (arith, found.1, run.as_many) in
    let long : length (map caller_at (map (λ (s : Searcher). s.pass) after)) ≡ length after =
    length-map (map (λ (s : Searcher). s.pass) after) caller_at ∙ length-map after (λ (s : Searcher). s.pass) in
    let at = callers_at after found.0 caller inside in
    (found.0, omega (arith, long, inside), at.1 ∙ (caller_is board v before after are run found.0 at.0 found.1 ∙ sym found.2))
