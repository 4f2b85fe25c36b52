use Rattle.search_workers.proofs.GoingOn.{newest_on, newest_beside, newest_is_edition}
use Rattle.search_workers.proofs.search.rehearse_on.Goals as goal

pub rehearse_on-requires-clause-edition : goal.rehearse_on-requires-clause-edition
rehearse_on-requires-clause-edition c = newest_is_edition c.args.core.now c.args.explorer.now.graph c.requires.newest

pub returns-clause-newest : goal.returns-clause-newest
returns-clause-newest c =
    let moved = newest_beside c.args.core.now c.args.explorer.now.graph c.rehearse_on.new.self.graph c.rehearse_on.ensures.beside c.requires.newest in
    newest_on c.args.core.now c.publish.new.core c.publish.ensures c.rehearse_on.new.self.graph moved
