use Rattle.dispatch_core.specs.declared.event.CoreEvent.TheVariants as event
use Rattle.shared_board.specs.Board.{known}
use Rattle.shared_board.specs.Callers.{searcher_of}
use Rattle.shared_board.proofs.Onward.{searcher_on}
use Rattle.search_crew.proofs.Keeping.{entered_keeps, looked_keeps}
use Rattle.search_crew.proofs.hand_in.put_in.Goals as goal

pub returns-in-Ok : goal.returns-in-Ok
returns-in-Ok g c =
    entered_keeps c.args.pass.now c.grow.new.pass c.grow.ensures.board c.grow.ensures.counts (event.Grow (searcher_of (known c.args.pass.now).caller) c.args.fragment) c.in-Ok.field-0 c.in-Ok.ensures.told

pub give_back-requires-clause-searcher : goal.give_back-requires-clause-searcher
give_back-requires-clause-searcher g c =
    let on = looked_keeps c.args.pass.now c.grow.new.pass c.grow.ensures.board c.grow.ensures.counts c.in-Err-Memory-Grow.ensures.err in
    searcher_on (known c.args.pass.now) (known c.grow.new.pass) on.goes.role c.requires.searcher
