use Rattle.std.proofs.Common.{◌∙◌, sym, arith}
use Rattle.shared_board.specs.Board.{known}
use Rattle.crew_tests.proofs.Passes.{has_searcher, is_at_work}
use Rattle.crew_tests.proofs.tests.searchers.board.Goals as goal

pub split-pass-requires-clause-caller : goal.split-pass-requires-clause-caller
split-pass-requires-clause-caller c = has_searcher 0 _ (known c.in_ok-board.first) c.in_ok-board.ensures.pass.1 (omega arith)

pub returns : goal.returns
returns c =
    let made = c.in_ok-board.ensures in
    is_at_work 0 _ (known c.in_ok-board.first) made.pass.1 _ c.split-pass.result (c.split-pass.ensures.board.1 ∙ made.pass.0) c.split-pass.ensures.given.0 (sym made.problem) (omega arith)
