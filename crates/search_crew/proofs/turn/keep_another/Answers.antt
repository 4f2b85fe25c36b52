use Rattle.dispatch_core.specs.declared.event.CoreEvent.TheVariants as event
use Rattle.shared_board.specs.Board.{known}
use Rattle.shared_board.specs.Callers.{searcher_of}
use Rattle.shared_board.proofs.Onward.{searcher_on}
use Rattle.search_crew.proofs.Keeping.{entered_keeps, keeps_keeps}
use Rattle.search_crew.proofs.turn.keep_another.Goals as goal

pub returns-in-Err-clause-on : goal.returns-in-Err-clause-on
returns-in-Err-clause-on g c =
    keeps_keeps c.args.pass.now c.take.new.pass c.give_back.new.pass
    (entered_keeps c.args.pass.now c.take.new.pass c.take.ensures.board c.take.ensures.counts (event.Take (searcher_of (known c.args.pass.now).caller) c.args.edition 16) c.in-Ok-Taken.field-0 c.in-Ok-Taken.ensures.told)
    c.give_back.ensures

pub give_back-requires-clause-searcher : goal.give_back-requires-clause-searcher
give_back-requires-clause-searcher g c =
    let on = entered_keeps c.args.pass.now c.take.new.pass c.take.ensures.board c.take.ensures.counts (event.Take (searcher_of (known c.args.pass.now).caller) c.args.edition 16) c.in-Ok-Taken.field-0 c.in-Ok-Taken.ensures.told in
    searcher_on (known c.args.pass.now) (known c.take.new.pass) on.goes.role c.requires.searcher
