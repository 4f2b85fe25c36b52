use Rattle.search_crew.proofs.Keeping.{at_work_on}
use Rattle.crew_tests.proofs.tests.searchers.answers_in_turn.Goals as goal

pub search-other-requires-clause-at : goal.search-other-requires-clause-at
search-other-requires-clause-at g c = λ lifetimes outlived.
    at_work_on c.args.board.now c.args.rule 0 c.args.pass.now c.search-one.new.pass c.search-one.ensures.on c.requires
