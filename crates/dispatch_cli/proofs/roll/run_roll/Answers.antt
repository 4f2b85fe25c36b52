use Rattle.std.proofs.Common.{refl, inl}
use Rattle.text_puts.specs.Outside.{outside}
use Rattle.dispatch_cli.proofs.Rolling.{stopped_of}
use Rattle.dispatch_cli.proofs.roll.run_roll.Goals as goal

pub returns-in-Err : goal.returns-in-Err
returns-in-Err g c =
    record {
      ends = inl (stopped_of c.args.task.now
          (outside (g.S.Shelf.state c.args.shelf.now) (g.O.Sink.state c.args.out.now))
          (outside (g.S.Shelf.state c.rolled_of.new.shelf) (g.O.Sink.state c.rolled_of.new.out))
          (outside (g.S.Shelf.state c.rolled_of.new.shelf) (g.O.Sink.state c.stop_roll.new.out))
          c.in-Err.no _ _ c.in-Err.ensures.no c.stop_roll.ensures refl refl refl c.new.ensures.items);
      feeds = c.in-Err.ensures.feeds;
    }
