use Rattle.std.proofs.Common.{◌≡◌, ◌∙◌, ℕ, List, All, Contains, drop, length, map, option_map, sym, subst}
use Rattle.disp_model.specs.declared.entry.Entry.{Entry}
use Rattle.disp_outside.specs.States.{Counts}
use Rattle.text_puts.specs.Outside.{outside}
use Rattle.turn_lock.specs.Known.{StartsWith}
use Rattle.shared_board.specs.declared.pass.Pass.{Pass}
use Rattle.shared_board.specs.Board.{known, fetched}
use Rattle.feed_runs.specs.Readers.{CountsFeeds}
use Rattle.rolling_driver.specs.Ended.{PrintsBehind, PrintsRest, reader_passes, searcher_passes}
use Rattle.rolling_driver.proofs.Joining.{last_mine, last_one, last_owns, last_readers, last_searchers, last_starts, last_terms}
use Rattle.rolling_driver.proofs.Shifting.{rest_behind, rest_shifted, with_readings}
use Rattle.rolling_driver.proofs.ending.end_run.Goals as goal

pub close_run-closed-requires-clause-last : goal.close_run-closed-requires-clause-last
close_run-closed-requires-clause-last g c =
    last_one c.args.board c.args.first c.join_readers.new.first c.join_searchers.new.first c.print_rest-printed.new.first c.args.readers.items c.args.searchers.items c.requires.may
    c.join_readers.ensures.joins c.join_searchers.ensures c.print_rest-printed.ensures.watches

pub close_run-closed-requires-clause-owns : goal.close_run-closed-requires-clause-owns
close_run-closed-requires-clause-owns g c =
    last_owns c.args.board c.args.first c.join_readers.new.first c.join_searchers.new.first c.print_rest-printed.new.first c.args.readers.items c.args.searchers.items c.requires.may
    c.join_readers.ensures.joins c.join_searchers.ensures c.print_rest-printed.ensures.watches

pub returns : goal.returns
returns g c =
    let board = c.args.board in let first = c.args.first in let then = c.join_readers.new.first in let both = c.join_searchers.new.first in let last = c.print_rest-printed.new.first in
    let readers = c.args.readers.items in let searchers = c.args.searchers.items in let may = c.requires.may in
    let one = c.join_readers.ensures.joins in let two = c.join_searchers.ensures in let watches = c.print_rest-printed.ensures.watches in let closed = c.close_run-closed.ensures in
    let trees = option_map (λ prefix. prefix.now) c.args.trees in
    let old = outside (g.S.Shelf.state c.args.shelf.now) (g.O.Sink.state c.args.out.now) in
    let mid = outside (g.S.Shelf.state c.join_readers.new.shelf) (g.O.Sink.state c.args.out.now) in
    let new = outside (g.S.Shelf.state c.print_rest-printed.new.shelf) (g.O.Sink.state c.print_rest-printed.new.out) in
    let same : with_readings mid old.reading ≡ old = λ i. record old { holds = λ name. c.join_readers.ensures.held name i; putting = λ name. c.join_readers.ensures.puttings name i } in
    let fetched_is : fetched both ≡ fetched first = two.fetched_is ∙ one.fetched_is in
    let printed = subst (λ (n : ℕ). PrintsBehind trees (drop n (known last).seen) mid new c.args.printed c.print_rest-printed.result) fetched_is c.print_rest-printed.ensures.printed in
    let behind = rest_behind trees (fetched first) (length (known first).seen) (known last).seen mid new c.args.printed c.print_rest-printed.result c.requires.fetched printed in
    let readings : mid.reading ≡ new.reading = λ i name. sym (c.print_rest-printed.ensures.readings name) i in
    record {
      ended = record {
        sound = closed.sound;
        terms = sym (last_terms board first then both last readers searchers may one two watches) ∙ closed.terms;
        starts = subst (λ (l : List Entry). StartsWith l (known first).seen) (sym closed.seen) (last_starts board first then both last readers searchers may one two watches);
        reader_starts = subst (λ (l : List Entry). All (λ (pass : Pass). StartsWith l (known pass).seen) (reader_passes readers)) (sym closed.seen)
            (last_readers board first then both last readers searchers may one two watches);
        searcher_starts = subst (λ (l : List Entry). All (λ (pass : Pass). StartsWith l (known pass).seen) (searcher_passes searchers)) (sym closed.seen)
            (last_searchers board first then both last readers searchers may one two watches);
        covered = λ place within. subst (λ (l : List ℕ). Contains l place) (last_mine board first then both last readers searchers may one two watches) (closed.places place within);
        counts = subst (λ (counts : Counts). CountsFeeds g.S.Feed.Feed.name g.S.Feed.Feed.faults (map (λ r. r.feed) readers) old.reading counts) readings c.join_readers.ensures.counts;
        prints = subst (λ (l : List Entry). PrintsRest trees (drop (length (known first).seen) l) old new c.args.printed c.print_rest-printed.result) (sym closed.seen)
            (rest_shifted trees (drop (length (known first).seen) (known last).seen) old mid new c.args.printed c.print_rest-printed.result same behind);
      };
      still_known = λ name known. c.print_rest-printed.ensures.still_known name (c.join_readers.ensures.still_known name known);
      closed = c.print_rest-printed.ensures.feeds ∙ c.join_readers.ensures.closed;
    }
