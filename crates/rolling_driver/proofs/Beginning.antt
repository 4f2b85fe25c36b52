-- Passes for the feeds and the searchers of a run.
use Rattle.std.proofs.Common.{◌≡◌, ◌∙◌, ℕ, ◌<◌, ◌≤◌, Bool, false, List, All, get_or, length, map, refl, sym, ap, subst, arith}
use Rattle.std.proofs.lemmas.List.{get_or-map, length-map}
use Rattle.std.proofs.lemmas.Option.{slice_get-get_or}
use Rattle.disp_model.specs.declared.entry.Entry.{Entry}
use Rattle.turn_lock.specs.Known.{Known}
use Rattle.shared_board.specs.declared.board.Board.{Board}
use Rattle.shared_board.specs.declared.terms.Terms.{Terms}
use Rattle.shared_board.specs.Board.{known}
use Rattle.shared_board.specs.Onward.{entries_by}
use Rattle.crew_runs.specs.Seats.{MaySeat}
use Rattle.feed_runs.specs.declared.reader.Reader.{Reader}
use Rattle.feed_runs.specs.Readers.{AreReaders, AreReady, MayRead}
use Rattle.feed_runs.proofs.Seating.{below_next}
use Rattle.rolling_driver.specs.Opened.{AreNew, opening, with_feeds}

pub may_read : (terms : Terms) → terms.feeds ≤ 64 → MayRead (opening terms) terms.feeds
may_read terms few = record { first = refl; terms = terms; terms_are = refl; feeds = refl; few = few; caller = refl; none_given = refl; none_seen = refl }

pub may_seat : (terms : Terms) → terms.feeds ≤ 64 → terms.searchers ≤ 64 → MaySeat (with_feeds terms) terms.searchers
may_seat terms few some = record {
  first = refl;
  terms = terms;
  terms_are = refl;
  enough = omega arith;
  few = some;
  caller = omega (arith, few);
  none_given = λ caller there. let below = below_next terms.feeds caller there in omega (arith, few, below);
}

module _ {F : Type 0} (has_ended : F → Bool) (faults : F → ℕ) (board : Board) (terms : Terms) (readers : List (Reader F)) (feeds : List F)
    (are : AreReaders board (opening terms) readers) (same : map (λ r. r.feed) readers ≡ feeds) (many : length feeds ≡ terms.feeds) (new : AreNew has_ended faults feeds) where
  long : length readers ≡ length feeds
  long = sym (length-map readers (λ (r : Reader F). r.feed)) ∙ ap (λ (l : List F). length l) same

  new_at : (place : ℕ) (d : Reader F) → place < length readers → (has_ended (get_or readers place d).feed ≡ false) × (faults (get_or readers place d).feed ≡ 0)
  new_at place d within =
      subst (λ (f : F). (has_ended f ≡ false) × (faults f ≡ 0)) (ap (λ (l : List F). get_or l place d.feed) (sym same) ∙ get_or-map (λ (r : Reader F). r.feed) readers place d d.feed within)
      (new place d.feed (omega (arith, within, long)))

  pub all_ready : AreReady has_ended board readers
  all_ready place d within =
      let one = get_or readers place d in let is = are place one (slice_get-get_or readers place d within) in
      let own : (known one.pass).caller ≡ place = ap (λ (k : Known Entry Terms). k.caller) is.knows in
      record {
        board_is = is.board_is;
        feed = record { terms = terms; terms_are = ap (λ (k : Known Entry Terms). k.terms) is.knows; within = omega (arith, own, within, long, many) };
        none = is.none;
        none_by = ap (λ (k : Known Entry Terms). entries_by k.caller k.seen) is.knows;
        is_open = (new_at place d within).0;
      }

  pub all_unbroken : All (λ r. faults r.feed ≡ 0) readers
  all_unbroken place d within = (new_at place d within).1
