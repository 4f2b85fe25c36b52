use Rattle.std.proofs.Common.{◌+◌, refl}
use Rattle.dispatch_core.specs.declared.event.CoreEvent.TheVariants as event
use Rattle.shared_board.specs.Board.{known, lines}
use Rattle.shared_board.proofs.Onward.{entered_goes, seen_only_goes}
use Rattle.solved_problems.proofs.Asking.{ask_asks}
use Rattle.solved_problems.proofs.entering.enter_line.Goals as goal

pub returns-in_err-ask-clause-on : goal.returns-in_err-ask-clause-on
returns-in_err-ask-clause-on g c = seen_only_goes c.args.pass.now c.ask.new.pass c.ask.ensures.board c.ask.ensures.fetched c.in_err-ask.ensures.err.0

pub returns-clause-on : goal.returns-clause-on
returns-clause-on g c =
    entered_goes c.args.pass.now c.ask.new.pass c.ask.ensures.board c.ask.ensures.fetched
    (event.Ask (known c.args.pass.now).caller (lines c.args.pass.now + 1) c.args.change) c.in_ok-ask.field-0 c.in_ok-ask.ensures.asked.0

pub returns-clause-asks : goal.returns-clause-asks
returns-clause-asks g c =
    ask_asks c.args.pass.now c.ask.new.pass (lines c.args.pass.now + 1) c.args.change c.in_ok-ask.field-0 refl c.in_ok-ask.ensures.asked.0 c.in_ok-ask.ensures.asked.1
