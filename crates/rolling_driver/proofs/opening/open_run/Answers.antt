use Rattle.std.proofs.Common.{◌≡◌, ◌-◌, All, length, sym, subst}
use Rattle.rolling_driver.specs.Opened.{AreNew}
use Rattle.rolling_driver.proofs.opening.open_run.Goals as goal

pub close_left-requires-clause-feeds : goal.close_left-requires-clause-feeds
close_left-requires-clause-feeds g c = λ lifetimes outlived. subst (λ l. AreNew g.S.Feed.Feed.has_ended g.S.Feed.Feed.faults l) (sym c.in-Err.ensures.left) c.requires.feeds

pub close_left-requires-clause-known : goal.close_left-requires-clause-known
close_left-requires-clause-known g c = λ lifetimes outlived. subst (λ l. All (λ feed. g.S.Shelf.knows c.args.shelf.now (g.S.Feed.Feed.name feed)) l) (sym c.in-Err.ensures.left) c.requires.known

pub returns-in-Err-clause-closed : goal.returns-in-Err-clause-closed
returns-in-Err-clause-closed g c =
    subst (λ l. g.S.Shelf.open_feeds c.close_left.new.shelf ≡ g.S.Shelf.open_feeds c.args.shelf.now - length l) c.in-Err.ensures.left c.close_left.ensures.closed
