use Rattle.incremental_paths.proofs.paths.Paths.between.Goals as goal

pub returns-clause-no_cycle : goal.returns-clause-no_cycle
returns-clause-no_cycle c = rw (← c.self.view_is) c.between.ensures.no_cycle
