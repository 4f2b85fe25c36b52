use Rattle.shared_board.specs.Board.{known}
use Rattle.shared_board.proofs.Onward.{searcher_on}
use Rattle.search_crew.proofs.searching.search.Goals as goal

pub give_all_back-requires-clause-searcher : goal.give_all_back-requires-clause-searcher
give_all_back-requires-clause-searcher g c =
    searcher_on (known c.args.pass.now) (known c.search_newest.new.pass) c.search_newest.ensures.on.goes.role c.requires.at.searcher
