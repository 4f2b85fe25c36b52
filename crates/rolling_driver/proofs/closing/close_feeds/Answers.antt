use Rattle.std.proofs.Common.{◌≡◌, ◌∙◌, ◌-◌, length, rules, sym, subst}
use Rattle.std.proofs.lemmas.Iterator.Adapters.{YieldsList-from_vec}
use Rattle.std.proofs.lemmas.Iterator.Consumers.{YieldsList-end}
use Rattle.std.proofs.lemmas.List.{map-id}
use Rattle.rolling_driver.proofs.closing.close_feeds.Goals as goal

pub returns-clause-closed : goal.returns-clause-closed
returns-clause-closed g c =
    let gives = c.into_iter-feed-iterator.ensures.into_iter_gives in
    let seen = YieldsList-end (YieldsList-from_vec c.args.feeds.items gives.0 (search rules)) c.loop-feed.yielded c.loop-feed.feed-iterator c.loop-feed.yielded_by c.next.result c.next.new.self c.in-None.is c.next.ensures.steps in
    subst (λ feeds. g.S.Shelf.open_feeds c.loop-feed.shelf ≡ g.S.Shelf.open_feeds c.args.shelf.now - length feeds) (sym (map-id c.loop-feed.yielded) ∙ seen.0) c.loop-feed.invariant.closed
