use Rattle.std.proofs.Common.{◌≡◌, ◌∙◌, ℕ, List, length, rules, refl, sym, ap, subst, arith}
use Rattle.std.proofs.lemmas.List.{length-map}
use Rattle.disp_model.specs.declared.entry.Entry.{Entry}
use Rattle.search_crew.specs.declared.crew.Hand.{Hand}
use Rattle.turn_lock.specs.Known.{Known}
use Rattle.shared_board.specs.declared.terms.Terms.{Terms}
use Rattle.shared_board.specs.Board.{known}
use Rattle.crew_runs.specs.declared.searcher.Searcher.{Searcher}
use Rattle.crew_runs.specs.Seats.{AreSeats, MaySeat, with_searchers}
use Rattle.crew_runs.proofs.Ended.{all_seated}
use Rattle.feed_runs.specs.Readers.{AreReaders, MayRead, with_readers}
use Rattle.rolling_driver.specs.Opened.{opening, terms_for, with_feeds}
use Rattle.rolling_driver.proofs.Beginning.{all_ready, all_unbroken, may_read, may_seat}
use Rattle.rolling_driver.proofs.opening.seat_run.Goals as goal

pub readers_of-requires-clause-may : goal.readers_of-requires-clause-may
readers_of-requires-clause-may g c = λ lifetimes outlived.
    let terms = terms_for c.args.problem.now c.args.settings (length c.args.feeds.items) c.args.workers in
    let same : c.len-count.result ≡ length c.args.feeds.items = search rules in
    let is : known c.in-Ok.first ≡ opening terms = c.in-Ok.ensures.pass.1 ∙ ap (λ (n : ℕ). opening (terms_for c.args.problem.now c.args.settings n c.args.workers)) same in
    subst (λ (k : Known Entry Terms). MayRead k (length c.args.feeds.items)) (sym is) (may_read terms c.requires.few)

pub seats_of-requires-clause-may : goal.seats_of-requires-clause-may
seats_of-requires-clause-may g c =
    let terms = terms_for c.args.problem.now c.args.settings (length c.args.feeds.items) c.args.workers in
    let same : c.len-count.result ≡ length c.args.feeds.items = search rules in
    let is : known c.in-Ok.first ≡ opening terms = c.in-Ok.ensures.pass.1 ∙ ap (λ (n : ℕ). opening (terms_for c.args.problem.now c.args.settings n c.args.workers)) same in
    let then : known c.readers_of.new.first ≡ with_feeds terms = c.in-Ok-readers_of.ensures.first ∙ ap (λ (k : Known Entry Terms). with_readers k (length c.args.feeds.items)) is in
    subst (λ (k : Known Entry Terms). MaySeat k (length c.in-Ok-crew_of.hands.items)) (sym then)
    (subst (MaySeat (with_feeds terms)) (sym c.in-Ok-crew_of.ensures.count) (may_seat terms c.requires.few c.requires.workers))

pub returns-clause-opened : goal.returns-clause-opened
returns-clause-opened g c =
    let terms = terms_for c.args.problem.now c.args.settings (length c.args.feeds.items) c.args.workers in
    let same : c.len-count.result ≡ length c.args.feeds.items = search rules in
    let is : known c.in-Ok.first ≡ opening terms = c.in-Ok.ensures.pass.1 ∙ ap (λ (n : ℕ). opening (terms_for c.args.problem.now c.args.settings n c.args.workers)) same in
    let then : known c.readers_of.new.first ≡ with_feeds terms = c.in-Ok-readers_of.ensures.first ∙ ap (λ (k : Known Entry Terms). with_readers k (length c.args.feeds.items)) is in
    let readers = subst (λ (k : Known Entry Terms). AreReaders c.in-Ok.board k c.in-Ok-readers_of.readers.items) is c.in-Ok-readers_of.ensures.readers in
    let seats = subst (λ (k : Known Entry Terms). AreSeats c.in-Ok.board k c.in-Ok-seats_of.searchers.items) then c.in-Ok-seats_of.ensures.seats in
    let many : length c.in-Ok-seats_of.searchers.items ≡ c.args.workers =
    sym (length-map c.in-Ok-seats_of.searchers.items (λ (s : Searcher). s.hand)) ∙ (ap (λ (l : List Hand). length l) c.in-Ok-seats_of.ensures.hands ∙ c.in-Ok-crew_of.ensures.count) in
    record {
      board_is = c.in-Ok-seats_of.ensures.board ∙ (c.in-Ok-readers_of.ensures.board ∙ c.in-Ok.ensures.pass.0);
      none_fetched = c.in-Ok-seats_of.ensures.counts.0 ∙ (c.in-Ok-readers_of.ensures.counts.0 ∙ c.in-Ok.ensures.pass.2);
      knows = c.in-Ok-seats_of.ensures.first ∙ (ap (λ (k : Known Entry Terms). with_searchers k (length c.in-Ok-crew_of.hands.items)) then ∙ ap (with_searchers (with_feeds terms)) c.in-Ok-crew_of.ensures.count);
      feeds_are = c.in-Ok-readers_of.ensures.feeds;
      unbroken = all_unbroken g.F.Feed.has_ended g.F.Feed.faults c.in-Ok.board terms c.in-Ok-readers_of.readers.items c.args.feeds.items readers c.in-Ok-readers_of.ensures.feeds refl c.requires.feeds;
      readers = readers;
      ready = all_ready g.F.Feed.has_ended g.F.Feed.faults c.in-Ok.board terms c.in-Ok-readers_of.readers.items c.args.feeds.items readers c.in-Ok-readers_of.ensures.feeds refl c.requires.feeds;
      few = c.requires.few;
      as_many = many;
      searchers = seats;
      seated = all_seated c.in-Ok.board c.in-Ok-crew_of.crew c.args.settings.rule (with_feeds terms) terms c.in-Ok-crew_of.hands.items c.in-Ok-seats_of.searchers.items refl
          (sym c.in-Ok.ensures.problem) refl (omega (arith, many)) seats c.in-Ok-seats_of.ensures.hands c.in-Ok-crew_of.ensures.hands;
    }
