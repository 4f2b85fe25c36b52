use Rattle.shared_board.specs.Board.{known}
use Rattle.shared_board.proofs.Onward.{searcher_on}
use Rattle.search_crew.proofs.round.find_turn.Goals as goal

pub keep_another-requires-clause-searcher : goal.keep_another-requires-clause-searcher
keep_another-requires-clause-searcher g c =
    searcher_on (known c.args.pass.now) (known c.next_turn.new.pass) c.next_turn.ensures.on.goes.role c.requires.searcher
