use Rattle.search_workers.proofs.Keeping.{edition_beside}
use Rattle.search_workers.proofs.explorer.Explorer.prepare.Goals as goal

pub rehearse_below-requires-clause-edition : goal.rehearse_below-requires-clause-edition
rehearse_below-requires-clause-edition c =
    edition_beside c.args.self.now.graph c.move_to.new.self.graph c.move_to.ensures.beside c.requires.edition
