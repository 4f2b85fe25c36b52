use Rattle.search_workers.proofs.Keeping.{edition_beside}
use Rattle.search_workers.proofs.explorer.Explorer.rehearse_root.Goals as goal

pub rehearse_once-requires-clause-edition : goal.rehearse_once-requires-clause-edition
rehearse_once-requires-clause-edition c =
    edition_beside c.args.self.now.graph c.loop.self.graph c.loop.invariant.0 c.requires.edition
