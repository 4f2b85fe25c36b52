use Rattle.std.proofs.Common.{refl, arith}
use Rattle.text_puts.specs.Outside.{outside}
use Rattle.dispatch_cli.proofs.Rolling.{fed_of_opened, runs_of}
use Rattle.dispatch_cli.proofs.roll.roll_feeds.Goals as goal

pub returns-in-Ok-roll-clause-ok : goal.returns-in-Ok-roll-clause-ok
returns-in-Ok-roll-clause-ok g c =
    runs_of c.args.task.now c.args.problem.now
    (outside (g.S.Shelf.state c.args.shelf.now) (g.O.Sink.state c.args.out.now))
    (outside (g.S.Shelf.state c.open_feeds.new.shelf) (g.O.Sink.state c.args.out.now))
    (outside (g.S.Shelf.state c.roll.new.shelf) (g.O.Sink.state c.roll.new.out))
    _ _ _ _ _ _ c.requires.few c.settings-settings.ensures c.as_ref-trees.ensures.value c.as_slice.ensures
    (fed_of_opened g.S.Feed.Feed.name g.S.Feed.Feed.lines g.S.Feed.Feed.has_ended g.S.Feed.Feed.faults (g.S.Shelf.state c.args.shelf.now).holds c.as_slice.result.now c.in-Ok.feeds.items c.in-Ok.ensures.ok)
    (record {
      holds = c.open_feeds.ensures.held;
      reading = c.in-Ok.ensures.quiet;
      putting = c.open_feeds.ensures.puttings;
      faults = refl;
      written = refl;
    }) c.in-Ok-roll.ensures.rolled

pub returns-in-Ok-roll-clause-feeds : goal.returns-in-Ok-roll-clause-feeds
returns-in-Ok-roll-clause-feeds g c = let opened = c.in-Ok.ensures.opened in let closed = c.roll.ensures.closed in omega (arith, opened, closed)

pub returns-in-Err-roll-clause-feeds : goal.returns-in-Err-roll-clause-feeds
returns-in-Err-roll-clause-feeds g c = let opened = c.in-Ok.ensures.opened in let closed = c.roll.ensures.closed in omega (arith, opened, closed)
