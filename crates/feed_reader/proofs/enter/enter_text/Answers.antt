use Rattle.std.proofs.Common.{◌+◌}
use Rattle.disp_model.specs.declared.entry.Unasked.TheVariants.{Unreadable}
use Rattle.dispatch_core.specs.declared.event.CoreEvent.TheVariants as event
use Rattle.fixing_lines.specs.declared.request.Request.TheVariants as request
use Rattle.shared_board.specs.Board.{known, lines}
use Rattle.shared_board.proofs.Onward.{entered_goes, seen_only_goes, seen_only_entries}
use Rattle.shared_board.proofs.Running.{on_err}
use Rattle.feed_reader.proofs.Entering.{ask_answers, show_answers, unread_answers}
use Rattle.feed_reader.proofs.enter.enter_text.Goals as goal

pub returns-in_err-ask-in-Ask-clause-on : goal.returns-in_err-ask-in-Ask-clause-on
returns-in_err-ask-in-Ask-clause-on g c =
    seen_only_goes c.args.pass.now c.ask.new.pass c.ask.ensures.board c.ask.ensures.fetched c.in_err-ask-in-Ask.ensures.err.0

pub returns-in_err-ask-in-Ask-clause-err : goal.returns-in_err-ask-in-Ask-clause-err
returns-in_err-ask-in-Ask-clause-err g c =
    on_err c.from_residual.result _ (seen_only_entries (known c.args.pass.now) (known c.ask.new.pass) c.in_err-ask-in-Ask.ensures.err.0)

pub returns-in_ok-ask-in-Ask-clause-on : goal.returns-in_ok-ask-in-Ask-clause-on
returns-in_ok-ask-in-Ask-clause-on g c =
    entered_goes c.args.pass.now c.ask.new.pass c.ask.ensures.board c.ask.ensures.fetched
    (event.Ask (known c.args.pass.now).caller (lines c.args.pass.now + 1) c.in-Ask.change) c.in_ok-ask-in-Ask.field-0 c.in_ok-ask-in-Ask.ensures.asked.0

pub returns-in_ok-ask-in-Ask-clause-entered : goal.returns-in_ok-ask-in-Ask-clause-entered
returns-in_ok-ask-in-Ask-clause-entered g c =
    ask_answers (known c.args.pass.now) (known c.ask.new.pass) (lines c.args.pass.now + 1) c.args.text.now c.in-Ask.change c.in_ok-ask-in-Ask.field-0
    ((c.read_request.ensures.exact (request.Ask c.in-Ask.change)).0 c.in-Ask.is) c.in_ok-ask-in-Ask.ensures.asked.0

pub returns-in_err-show-in-Show-clause-on : goal.returns-in_err-show-in-Show-clause-on
returns-in_err-show-in-Show-clause-on g c =
    seen_only_goes c.args.pass.now c.show.new.pass c.show.ensures.board c.show.ensures.fetched c.in_err-show-in-Show.ensures.err.0

pub returns-in_err-show-in-Show-clause-err : goal.returns-in_err-show-in-Show-clause-err
returns-in_err-show-in-Show-clause-err g c =
    on_err c.from_residual-in_err-show-in-Show.result _ (seen_only_entries (known c.args.pass.now) (known c.show.new.pass) c.in_err-show-in-Show.ensures.err.0)

pub returns-in_ok-show-in-Show-clause-on : goal.returns-in_ok-show-in-Show-clause-on
returns-in_ok-show-in-Show-clause-on g c =
    entered_goes c.args.pass.now c.show.new.pass c.show.ensures.board c.show.ensures.fetched
    (event.Show (known c.args.pass.now).caller (lines c.args.pass.now + 1)) c.in_ok-show-in-Show.field-0 c.in_ok-show-in-Show.ensures.shown.0

pub returns-in_ok-show-in-Show-clause-entered : goal.returns-in_ok-show-in-Show-clause-entered
returns-in_ok-show-in-Show-clause-entered g c =
    show_answers (known c.args.pass.now) (known c.show.new.pass) (lines c.args.pass.now + 1) c.args.text.now c.in_ok-show-in-Show.field-0
    ((c.read_request.ensures.exact request.Show).0 c.in-Show.is) c.in_ok-show-in-Show.ensures.shown.0

pub returns-in_err-unread-in-Unreadable-clause-on : goal.returns-in_err-unread-in-Unreadable-clause-on
returns-in_err-unread-in-Unreadable-clause-on g c =
    seen_only_goes c.args.pass.now c.unread.new.pass c.unread.ensures.board c.unread.ensures.fetched c.in_err-unread-in-Unreadable.ensures.err.0

pub returns-in_err-unread-in-Unreadable-clause-err : goal.returns-in_err-unread-in-Unreadable-clause-err
returns-in_err-unread-in-Unreadable-clause-err g c =
    on_err c.from_residual-in_err-unread-in-Unreadable.result _ (seen_only_entries (known c.args.pass.now) (known c.unread.new.pass) c.in_err-unread-in-Unreadable.ensures.err.0)

pub returns-in_ok-unread-in-Unreadable-clause-on : goal.returns-in_ok-unread-in-Unreadable-clause-on
returns-in_ok-unread-in-Unreadable-clause-on g c =
    entered_goes c.args.pass.now c.unread.new.pass c.unread.ensures.board c.unread.ensures.fetched
    (event.Unread (known c.args.pass.now).caller (lines c.args.pass.now + 1) Unreadable) c.in_ok-unread-in-Unreadable.field-0 c.in_ok-unread-in-Unreadable.ensures.noted.0

pub returns-in_ok-unread-in-Unreadable-clause-entered : goal.returns-in_ok-unread-in-Unreadable-clause-entered
returns-in_ok-unread-in-Unreadable-clause-entered g c =
    unread_answers (known c.args.pass.now) (known c.unread.new.pass) (lines c.args.pass.now + 1) c.args.text.now c.in_ok-unread-in-Unreadable.field-0
    ((c.read_request.ensures.exact request.Unreadable).0 c.in-Unreadable.is) c.in_ok-unread-in-Unreadable.ensures.noted.0
