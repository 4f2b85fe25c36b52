use Rattle.near_plans.proofs.Finding.{beside_beside}
use Rattle.search_workers.proofs.Keeping.{edition_beside}
use Rattle.search_tests.proofs.tests.rehearsed.gone_on.Goals as goal

pub rehearsed-second-requires-clause-edition : goal.rehearsed-second-requires-clause-edition
rehearsed-second-requires-clause-edition g c =
    let start = c.args.graph.now in
    edition_beside start c.move_to.new.graph
    (beside_beside start c.rehearsed-first.new.graph c.move_to.new.graph c.rehearsed-first.ensures.beside c.move_to.ensures) c.requires.edition
