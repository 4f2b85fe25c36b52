use Rattle.shared_board.specs.Board.{known}
use Rattle.shared_board.proofs.Onward.{searcher_on}
use Rattle.crew_runs.proofs.searcher.search_and_leave.Goals as goal

pub leave-requires-clause-searcher : goal.leave-requires-clause-searcher
leave-requires-clause-searcher g c = searcher_on (known c.args.pass.now) (known c.search_on.new.pass) c.search_on.ensures.on.goes.role c.requires.at.searcher
