use Rattle.std.proofs.Common.{refl}
use Rattle.std.proofs.lemmas.Result.{IfOk-weaker}
use Rattle.text_puts.specs.Outside.{outside}
use Rattle.dispatch_cli.proofs.Rolling.{run_of, not_begun, stopped_at_problem}
use Rattle.dispatch_cli.proofs.roll.rolled_of.Goals as goal

pub returns-in-Ok-clause-ok : goal.returns-in-Ok-clause-ok
returns-in-Ok-clause-ok g c =
    IfOk-weaker c.roll_feeds.result _ _ (λ rolled runs.
    run_of c.args.task.now c.in-Ok.problem
    (outside (g.S.Shelf.state c.args.shelf.now) (g.O.Sink.state c.args.out.now))
    (outside (g.S.Shelf.state c.problem_of.new.shelf) (g.O.Sink.state c.args.out.now))
    (outside (g.S.Shelf.state c.roll_feeds.new.shelf) (g.O.Sink.state c.roll_feeds.new.out))
    _ _ c.in-Ok.ensures.ok c.in-Ok.ensures.reads refl refl runs) c.roll_feeds.ensures.ok

pub returns-in-Ok-clause-no : goal.returns-in-Ok-clause-no
returns-in-Ok-clause-no g c =
    not_begun c.args.task.now c.in-Ok.problem
    (outside (g.S.Shelf.state c.args.shelf.now) (g.O.Sink.state c.args.out.now))
    (outside (g.S.Shelf.state c.problem_of.new.shelf) (g.O.Sink.state c.args.out.now))
    (outside (g.S.Shelf.state c.roll_feeds.new.shelf) (g.O.Sink.state c.roll_feeds.new.out))
    c.roll_feeds.result c.in-Ok.ensures.few c.in-Ok.ensures.ok c.in-Ok.ensures.reads c.roll_feeds.ensures.no c.roll_feeds.ensures.puttings c.roll_feeds.ensures.held
    c.roll_feeds.ensures.faults c.roll_feeds.ensures.written

pub returns-in-Err-clause-no : goal.returns-in-Err-clause-no
returns-in-Err-clause-no g c =
    stopped_at_problem c.args.task.now
    (outside (g.S.Shelf.state c.args.shelf.now) (g.O.Sink.state c.args.out.now))
    (outside (g.S.Shelf.state c.problem_of.new.shelf) (g.O.Sink.state c.args.out.now))
    c.in-Err.no c.in-Err.ensures.no c.in-Err.ensures.reads refl refl
