use Rattle.std.proofs.Common.{◌∙◌, ap}
use Rattle.shared_board.specs.Board.{known}
use Rattle.board_tests.proofs.Callers.{has_searcher, searcher_given}
use Rattle.board_tests.proofs.tests.a_run_ends_with_its_feeds_and_searchers.Goals as goal

pub split-searcher-requires-clause-caller : goal.split-searcher-requires-clause-caller
split-searcher-requires-clause-caller g c =
    has_searcher (known c.in_ok-board.pass) (known c.both_feeds-one.new.pass) c.in_ok-board.ensures.new (ap (λ z. z.terms) c.both_feeds-one.ensures.pass)

pub ends-ended-requires-clause-searcher : goal.ends-ended-requires-clause-searcher
ends-ended-requires-clause-searcher g c =
    let same = ap (λ z. z.terms) c.both_feeds-one.ensures.pass in (
      c.split-searcher.ensures.board.1 ∙ c.both_feeds-one.ensures.board.0,
      searcher_given (known c.in_ok-board.pass) (known c.both_feeds-one.new.pass) c.in_ok-board.ensures.new same _ c.split-searcher.ensures.given.0,
    )
