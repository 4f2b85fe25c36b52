use Rattle.std.proofs.Common.{◌∙◌, subst}
use Rattle.std.specs.Prelude.{IfOk}
use Rattle.disp_model.specs.Node.{Node}
use Rattle.near_plans.proofs.Finding.{beside_beside}
use Rattle.search_workers.specs.Grown.{IsGrownOf}
use Rattle.search_workers.proofs.Keeping.{edition_beside, node_beside}
use Rattle.search_workers.proofs.explorer.Explorer.grow.Goals as goal

pub dive_from-requires-clause-problem : goal.dive_from-requires-clause-problem
dive_from-requires-clause-problem c = c.prepare.ensures.beside.problem ∙ c.requires.problem

pub dive_from-requires-clause-edition : goal.dive_from-requires-clause-edition
dive_from-requires-clause-edition c = edition_beside c.args.self.now.graph c.prepare.new.self.graph c.prepare.ensures.beside c.requires.edition

pub returns-clause-beside : goal.returns-clause-beside
returns-clause-beside c = beside_beside c.args.self.now.graph c.prepare.new.self.graph c.dive_from.new.self.graph c.prepare.ensures.beside c.dive_from.ensures.beside

pub returns-clause-grown : goal.returns-clause-grown
returns-clause-grown c =
    let work = c.args.work.now in
    subst (λ (n : Node). IfOk c.dive_from.result (IsGrownOf c.args.reckoning.now.rule n c.args.best work.allowance work.bound))
    (node_beside c.args.self.now.graph c.prepare.new.self.graph c.prepare.ensures.beside work.decisions) c.dive_from.ensures.grown
