use Rattle.near_plans.proofs.Finding.{beside_beside}
use Rattle.search_workers.proofs.Keeping.{edition_beside}
use Rattle.search_workers.proofs.explorer.Explorer.rehearse_once.Goals as goal

pub try_on-requires-clause-edition : goal.try_on-requires-clause-edition
try_on-requires-clause-edition c =
    edition_beside c.args.self.now.graph c.move_to.new.self.graph c.move_to.ensures.beside c.requires.edition

pub look_behind-requires-clause-edition : goal.look_behind-requires-clause-edition
look_behind-requires-clause-edition c =
    edition_beside c.args.self.now.graph c.try_on.new.self.graph
    (beside_beside c.args.self.now.graph c.move_to.new.self.graph c.try_on.new.self.graph c.move_to.ensures.beside c.try_on.ensures.beside) c.requires.edition
