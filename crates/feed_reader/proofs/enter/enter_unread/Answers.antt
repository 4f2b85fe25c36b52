use Rattle.std.proofs.Common.{◌+◌}
use Rattle.shared_board.specs.Board.{known, lines}
use Rattle.shared_board.proofs.Onward.{entered_goes, seen_only_goes, seen_only_entries}
use Rattle.shared_board.proofs.Running.{on_err}
use Rattle.dispatch_core.specs.declared.event.CoreEvent.TheVariants as event
use Rattle.feed_reader.proofs.Entering.{unread_adds}
use Rattle.feed_reader.proofs.enter.enter_unread.Goals as goal

pub returns-in_err-unread-clause-on : goal.returns-in_err-unread-clause-on
returns-in_err-unread-clause-on g c =
    seen_only_goes c.args.pass.now c.unread.new.pass c.unread.ensures.board c.unread.ensures.fetched c.in_err-unread.ensures.err.0

pub returns-in_err-unread-clause-err : goal.returns-in_err-unread-clause-err
returns-in_err-unread-clause-err g c =
    on_err c.from_residual.result _ (seen_only_entries (known c.args.pass.now) (known c.unread.new.pass) c.in_err-unread.ensures.err.0)

pub returns-clause-on : goal.returns-clause-on
returns-clause-on g c =
    entered_goes c.args.pass.now c.unread.new.pass c.unread.ensures.board c.unread.ensures.fetched
    (event.Unread (known c.args.pass.now).caller (lines c.args.pass.now + 1) c.args.why) c.in_ok-unread.field-0 c.in_ok-unread.ensures.noted.0

pub returns-clause-entered : goal.returns-clause-entered
returns-clause-entered g c =
    unread_adds (known c.args.pass.now) (known c.unread.new.pass) (lines c.args.pass.now + 1) c.args.why c.in_ok-unread.field-0 c.in_ok-unread.ensures.noted.0
