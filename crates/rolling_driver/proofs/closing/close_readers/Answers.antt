use Rattle.std.proofs.Common.{◌≡◌, ◌∙◌, ◌+◌, ◌-◌, ◌++◌, ◌∷◌, [], length, rules, sym, subst, arith}
use Rattle.std.proofs.lemmas.Iterator.Adapters.{YieldsList-from_vec}
use Rattle.std.proofs.lemmas.Iterator.Consumers.{YieldsList-end, YieldsList-turn}
use Rattle.std.proofs.lemmas.List.{length-append, map-id}
use Rattle.text_puts.proofs.Counting.{stays, same_all}
use Rattle.rolling_driver.proofs.closing.close_readers.Goals as goal

pub loop-reader-preserved : goal.loop-reader-preserved
loop-reader-preserved g c =
    let inv = c.loop-reader.invariant in let reader = c.in-Some.reader in let place = length c.loop-reader.yielded in
    let gives = c.into_iter-reader-iterator.ensures.into_iter_gives in
    let turn = YieldsList-turn (YieldsList-from_vec c.args.readers.items gives.0 (search rules)) c.loop-reader.yielded c.loop-reader.reader-iterator c.loop-reader.yielded_by c.next.result c.next.new.self reader c.in-Some.is c.next.ensures.steps in
    let none : g.S.Feed.Feed.faults reader.feed ≡ 0 = subst (λ r. g.S.Feed.Feed.faults r.feed ≡ 0) (sym turn.1) (c.requires.feeds place reader turn.0).1 in
    let longer : length (c.loop-reader.yielded ++ reader ∷ []) ≡ place + 1 = length-append c.loop-reader.yielded (reader ∷ []) in
    let before = inv.closed in let one = c.close.ensures.closed in
    record {
      knows = λ name. ((λ here. (inv.knows name).0 ((c.close.ensures.known name).0 here)), (λ there. (c.close.ensures.known name).1 ((inv.knows name).1 there)));
      counts = λ name. same_all (g.S.Feed.Feed.name reader.feed) (g.S.Shelf.state c.loop-reader.shelf).reading (g.S.Shelf.state c.close.new.self).reading
          (stays _ _ c.close.ensures.counted (λ rises. let broken = c.close.ensures.failed.1 rises in absurd (omega (arith, broken, none)))) c.close.ensures.other_counts name ∙ inv.counts name;
      puttings = λ name. c.close.ensures.putting_counts name ∙ inv.puttings name;
      held = λ name. c.close.ensures.held name ∙ inv.held name;
      closed = omega (arith, longer, before, one);
    }

pub returns-clause-closed : goal.returns-clause-closed
returns-clause-closed g c =
    let gives = c.into_iter-reader-iterator.ensures.into_iter_gives in
    let seen = YieldsList-end (YieldsList-from_vec c.args.readers.items gives.0 (search rules)) c.loop-reader.yielded c.loop-reader.reader-iterator c.loop-reader.yielded_by c.next.result c.next.new.self c.in-None.is c.next.ensures.steps in
    subst (λ readers. g.S.Shelf.open_feeds c.loop-reader.shelf ≡ g.S.Shelf.open_feeds c.args.shelf.now - length readers) (sym (map-id c.loop-reader.yielded) ∙ seen.0) c.loop-reader.invariant.closed
