use Rattle.std.proofs.Common.{◌≡◌, ◌≤◌, ◌∙◌, ◌+◌, ◌++◌, ◌∷◌, [], ℕ, suc, Contains, length, map, rules, sym, ap, subst, arith}
use Rattle.std.proofs.lemmas.Iterator.Adapters.{YieldsList-from_vec}
use Rattle.std.proofs.lemmas.Iterator.Consumers.{YieldsList-turn}
use Rattle.std.proofs.lemmas.List.{length-append, length-map, map-append}
use Rattle.disp_model.specs.declared.entry.Entry.{Entry}
use Rattle.turn_lock.specs.Known.{Known, given_known, with_given}
use Rattle.shared_board.specs.declared.terms.Terms.{Terms}
use Rattle.shared_board.specs.Board.{known}
use Rattle.shared_board.specs.Calls.{HasCaller}
use Rattle.feed_runs.specs.Readers.{AreReaders, with_readers}
use Rattle.feed_runs.proofs.Seating.{next_caller, next_new, more_given, readers_more}
use Rattle.feed_runs.proofs.readers.readers_of.Goals as goal

pub split-pass-requires-clause-caller : goal.split-pass-requires-clause-caller
split-pass-requires-clause-caller g c =
    let count = length c.args.feeds.items in let place = length c.loop-feed.yielded in
    let gives = c.into_iter-feed-iterator.ensures.into_iter_gives in
    let within = (YieldsList-turn (YieldsList-from_vec c.args.feeds.items gives.0 (search rules)) c.loop-feed.yielded c.loop-feed.feed-iterator c.loop-feed.yielded_by c.next.result c.next.new.self c.in-Some.feed c.in-Some.is c.next.ensures.steps).0 in
    let may = next_caller (known c.args.first.now) count c.requires.may place within in
    subst (λ (n : ℕ). HasCaller (known c.loop-feed.first) n) (sym c.loop-feed.invariant.next)
    (subst (λ (k : Known Entry Terms). HasCaller k place) (sym c.loop-feed.invariant.knows) may)

pub split-pass-requires-clause-new_caller : goal.split-pass-requires-clause-new_caller
split-pass-requires-clause-new_caller g c =
    let count = length c.args.feeds.items in let place = length c.loop-feed.yielded in
    let gives = c.into_iter-feed-iterator.ensures.into_iter_gives in
    let within = (YieldsList-turn (YieldsList-from_vec c.args.feeds.items gives.0 (search rules)) c.loop-feed.yielded c.loop-feed.feed-iterator c.loop-feed.yielded_by c.next.result c.next.new.self c.in-Some.feed c.in-Some.is c.next.ensures.steps).0 in
    let may = next_new (known c.args.first.now) count c.requires.may place within in
    let knows = c.loop-feed.invariant.knows in let next = c.loop-feed.invariant.next in (
      (λ same. may.0 (sym next ∙ (same ∙ ap (λ (k : Known Entry Terms). k.caller) knows))),
      (λ there. may.1 (subst (λ (n : ℕ). Contains (with_readers (known c.args.first.now) place).given n) next
          (subst (λ (k : Known Entry Terms). Contains k.given c.loop-feed.number) knows there))),
    )

pub loop-feed-preserved : goal.loop-feed-preserved
loop-feed-preserved g c =
    let v = known c.args.first.now in let place = length c.loop-feed.yielded in let inv = c.loop-feed.invariant in
    let longer : length (c.loop-feed.yielded ++ c.in-Some.feed ∷ []) ≡ suc place = length-append c.loop-feed.yielded (c.in-Some.feed ∷ []) ∙ omega arith in
    let many : length c.loop-feed.readers.items ≡ place = sym (length-map c.loop-feed.readers.items (λ r. r.feed)) ∙ ap (λ l. length l) inv.feeds in
    record {
      board = c.split-pass.ensures.board.0 ∙ inv.board;
      fetched_is = c.split-pass.ensures.pass.1 ∙ inv.fetched_is;
      lines_are = c.split-pass.ensures.pass.2 ∙ inv.lines_are;
      next = ap (λ (n : ℕ). n + 1) inv.next ∙ (omega (arith, longer));
      knows =
          c.split-pass.ensures.pass.0
          ∙ (ap (λ (k : Known Entry Terms). with_given k c.loop-feed.number) inv.knows
          ∙ (ap (with_given (with_readers v place)) inv.next ∙ (more_given v place ∙ ap (with_readers v) (sym longer))));
      feeds = ap (map (λ r. r.feed)) c.push_reserved.ensures.items ∙ (map-append (λ r. r.feed) c.loop-feed.readers.items _ ∙ ap (λ l. l ++ c.in-Some.feed ∷ []) inv.feeds);
      count = c.push_reserved.ensures.len ∙ (ap (λ (n : ℕ). n + 1) inv.count ∙ sym (longer ∙ omega arith));
      room = subst (λ (n : ℕ). length c.args.feeds.items ≤ n) (sym c.push_reserved.ensures.capacity) inv.room;
      readers = subst (AreReaders c.args.board.now v) (sym c.push_reserved.ensures.items)
          (readers_more c.args.board.now v c.loop-feed.readers.items _ inv.readers (record {
            board_is = c.split-pass.ensures.board.1 ∙ (inv.board ∙ c.requires.board);
            knows =
                c.split-pass.ensures.given.0
                ∙ (ap (λ (k : Known Entry Terms). given_known k c.loop-feed.number) inv.knows
                ∙ (ap (given_known v) inv.next ∙ ap (given_known v) (sym many)));
            none = c.split-pass.ensures.given.2;
          }));
    }

pub push_reserved-requires : goal.push_reserved-requires
push_reserved-requires g c =
    let gives = c.into_iter-feed-iterator.ensures.into_iter_gives in
    let within = (YieldsList-turn (YieldsList-from_vec c.args.feeds.items gives.0 (search rules)) c.loop-feed.yielded c.loop-feed.feed-iterator c.loop-feed.yielded_by c.next.result c.next.new.self c.in-Some.feed c.in-Some.is c.next.ensures.steps).0 in
    let count = c.loop-feed.invariant.count in let room = c.loop-feed.invariant.room in omega (arith, within, count, room)
