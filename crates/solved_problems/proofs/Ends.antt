-- What the history of a run says, once all passes are joined.
use Rattle.std.proofs.Common.{◌≡◌, ◌∙◌, ℕ, ◌+◌, ◌<◌, ◌≤◌, ◌⊎◌, inl, inr, ⊎_elim, true, List, [], ◌∷◌, ◌++◌, All, Contains, get_or, length, refl, ap, arith}
use Rattle.std.specs.Prelude.{◌≢◌, Some, slice_get}
use Rattle.std.proofs.lemmas.Bool.{eq-eqb}
use Rattle.std.proofs.lemmas.List.Elements.{All-contains}
use Rattle.std.proofs.lemmas.Option.{slice_get-get_or, slice_get_within}
use Rattle.plain_values.proofs.Lists.{contains_none_where}
use Rattle.disp_model.specs.declared.entry.Entry.{Entry}
use Rattle.disp_model.specs.declared.entry.Entry.TheVariants.{Asked, Unread, Shown, Grown, Published, Settled, Stopped}
use Rattle.disp_model.specs.declared.entry.Mark.TheVariants.{Working}
use Rattle.disp_model.specs.declared.fixing.Change.{Change}
use Rattle.disp_model.specs.declared.problem.Problem.{Problem}
use Rattle.disp_model.specs.declared.settings.Settings.{Settings}
use Rattle.disp_model.specs.History.{newest, mark_of}
use Rattle.disp_model.specs.Legal.{IsLegal}
use Rattle.search_workers.specs.Searched.{IsOfSearch}
use Rattle.turn_lock.specs.Known.{Known, StartsWith}
use Rattle.turn_lock.specs.Section.{OwnsPlaces}
use Rattle.turn_lock.proofs.Beginnings.{starts_back}
use Rattle.shared_board.specs.declared.terms.Terms.{Terms}
use Rattle.shared_board.specs.Callers.{caller_of, is_line_of}
use Rattle.shared_board.proofs.LineCounts.{behind_get}
use Rattle.joined_passes.specs.Joined.{joined_all}
use Rattle.joined_passes.proofs.Owning.{place_of, no_line}
use Rattle.solved_problems.specs.Solved.{AreLinesFor, IsSearched, MayBeAsked, HasSearched}
use Rattle.solved_problems.proofs.Lines.{taken_lines}

-- an entry that names a caller without lines, or none, is of a search
of_search : (caller : ℕ) (e : Entry) → (is_line_of caller e ≡ true → ⊥) → ((other : ℕ) → caller_of e ≡ Some other → other ≡ caller) → IsOfSearch e
of_search caller (Asked feed line change told) none named = none (eq-eqb feed caller (named feed refl))
of_search caller (Unread feed line why) none named = none (eq-eqb feed caller (named feed refl))
of_search caller (Shown feed line standing) none named = none (eq-eqb feed caller (named feed refl))
of_search caller (Grown searcher edition seen node splits) none named = tt
of_search caller (Published edition plan cost) none named = tt
of_search caller (Settled edition verdict tree) none named = tt
of_search caller (Stopped edition spent bound) none named = tt

module _ (v : Known Entry Terms) (ws : List (Known Entry Terms)) (history : List Entry) (own : OwnsPlaces caller_of v) (starts : StartsWith history v.seen)
    (all : All (HasSearched history) ws) (covered : (place : ℕ) → place < length history → Contains (joined_all v ws).mine place) where
  -- an entry behind those that the first pass has seen is of a search
  by_place : (place : ℕ) (e : Entry) → length v.seen ≤ place → slice_get history place ≡ Some e → IsOfSearch e
  by_place place e behind there = whose (place_of v ws place (covered place (slice_get_within history place e there)))
    where
      whose : Contains v.mine place ⊎ ((w : Known Entry Terms) × Contains ws w × Contains w.mine place) → IsOfSearch e
      whose (inl mine) = let within = own.within place mine in absurd (omega (arith, within, behind))
      whose (inr (w, one, mine)) =
          let is = All-contains (HasSearched history) ws w all one in
          let seen = starts_back history w.seen is.starts place e (is.owns.within place mine) there in
          of_search w.caller e (no_line w.caller w.seen place e is.quiet seen)
          (λ other names. ⊎_elim (λ same. same) (λ back. absurd (contains_none_where w.back other is.back back)) (is.owns.others place e other mine seen names))

  later_search : All IsOfSearch starts.0
  later_search place d within =
      let e = get_or starts.0 place d in
      let there : slice_get history (length v.seen + place) ≡ Some e =
      ap (λ (l : List Entry). slice_get l (length v.seen + place)) starts.1 ∙ (behind_get v.seen starts.0 place ∙ slice_get-get_or starts.0 place d within) in
      by_place (length v.seen + place) e (omega arith) there

  pub is_searched : (problem : Problem) (settings : Settings) (asked : List Change) → IsLegal problem settings history → mark_of (newest history) history ≢ Working
      → MayBeAsked problem [] asked → AreLinesFor 0 1 asked v.seen → IsSearched problem settings asked history
  is_searched problem settings asked legal closed may lines = record {
    legal = legal;
    lines = v.seen;
    search = starts.0;
    parts = starts.1;
    asks = taken_lines problem settings history legal [] 1 asked v.seen starts may lines;
    of_search = later_search;
    closed = closed;
  }
