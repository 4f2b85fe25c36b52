use Rattle.std.proofs.Common.{◌≡◌, ◌∙◌, ◌+◌, ◌-◌, ◌++◌, ◌∷◌, [], List, length, map, rules, sym, subst, arith}
use Rattle.std.proofs.lemmas.Iterator.Adapters.{YieldsList-from_vec}
use Rattle.std.proofs.lemmas.Iterator.Consumers.{YieldsList-end}
use Rattle.std.proofs.lemmas.List.{length-append, map-append, map-id}
use Rattle.shared_board.specs.declared.pass.Pass.{Pass}
use Rattle.joined_passes.specs.Joined.{Joins}
use Rattle.feed_runs.specs.Readers.{CountsFeeds}
use Rattle.feed_runs.proofs.Closing.{one_closed}
use Rattle.feed_runs.proofs.readers.join_readers.Goals as goal

pub loop-reader-preserved : goal.loop-reader-preserved
loop-reader-preserved g c = let inv = c.loop-reader.invariant in record {
  board = c.join_next.ensures.board ∙ inv.board;
  own = c.join_next.ensures.board ∙ inv.own;
  is_first = c.join_next.ensures.first;
  joins = subst (λ (l : List Pass). Joins c.args.first.now l c.join_next.new.first) (sym (map-append (λ r. r.pass) c.loop-reader.yielded _))
      (c.join_next.ensures.joins c.args.first.now _ inv.joins);
  knows = λ name. ((λ here. (inv.knows name).0 ((c.close.ensures.known name).0 here)), (λ there. (c.close.ensures.known name).1 ((inv.knows name).1 there)));
  counts = subst (λ l. CountsFeeds g.S.Feed.Feed.name g.S.Feed.Feed.faults l (g.S.Shelf.state c.args.shelf.now).reading (g.S.Shelf.state c.close.new.self).reading)
      (sym (map-append (λ r. r.feed) c.loop-reader.yielded _))
      (one_closed g.S.Feed.Feed.name g.S.Feed.Feed.faults (map (λ r. r.feed) c.loop-reader.yielded) c.in-Some.reader.feed _ _ _ inv.counts (record {
        exactly = c.close.ensures.failed;
        counted = c.close.ensures.counted;
        others = c.close.ensures.other_counts;
      }));
  puttings = λ name. c.close.ensures.putting_counts name ∙ inv.puttings name;
  held = λ name. c.close.ensures.held name ∙ inv.held name;
  closed =
      let longer : length (c.loop-reader.yielded ++ c.in-Some.reader ∷ []) ≡ length c.loop-reader.yielded + 1 = length-append c.loop-reader.yielded (c.in-Some.reader ∷ []) in
      let before = inv.closed in let one = c.close.ensures.closed in omega (arith, longer, before, one);
}

pub returns-clause-joins : goal.returns-clause-joins
returns-clause-joins g c =
    let gives = c.into_iter-reader-iterator.ensures.into_iter_gives in
    let seen = YieldsList-end (YieldsList-from_vec c.args.readers.items gives.0 (search rules)) c.loop-reader.yielded c.loop-reader.reader-iterator c.loop-reader.yielded_by c.next.result c.next.new.self c.in-None.is c.next.ensures.steps in
    subst (λ readers. Joins c.args.first.now (map (λ r. r.pass) readers) c.loop-reader.first) (sym (map-id c.loop-reader.yielded) ∙ seen.0) c.loop-reader.invariant.joins

pub returns-clause-counts : goal.returns-clause-counts
returns-clause-counts g c =
    let gives = c.into_iter-reader-iterator.ensures.into_iter_gives in
    let seen = YieldsList-end (YieldsList-from_vec c.args.readers.items gives.0 (search rules)) c.loop-reader.yielded c.loop-reader.reader-iterator c.loop-reader.yielded_by c.next.result c.next.new.self c.in-None.is c.next.ensures.steps in
    subst (λ readers. CountsFeeds g.S.Feed.Feed.name g.S.Feed.Feed.faults (map (λ r. r.feed) readers) (g.S.Shelf.state c.args.shelf.now).reading (g.S.Shelf.state c.loop-reader.shelf).reading)
    (sym (map-id c.loop-reader.yielded) ∙ seen.0) c.loop-reader.invariant.counts

pub returns-clause-closed : goal.returns-clause-closed
returns-clause-closed g c =
    let gives = c.into_iter-reader-iterator.ensures.into_iter_gives in
    let seen = YieldsList-end (YieldsList-from_vec c.args.readers.items gives.0 (search rules)) c.loop-reader.yielded c.loop-reader.reader-iterator c.loop-reader.yielded_by c.next.result c.next.new.self c.in-None.is c.next.ensures.steps in
    subst (λ readers. g.S.Shelf.open_feeds c.loop-reader.shelf ≡ g.S.Shelf.open_feeds c.args.shelf.now - length readers) (sym (map-id c.loop-reader.yielded) ∙ seen.0) c.loop-reader.invariant.closed
