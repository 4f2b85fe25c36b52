use Rattle.incremental_paths.proofs.paths.Paths.changed.Goals as goal

pub returns-clause-lengths : goal.returns-clause-lengths
returns-clause-lengths c = rw (← c.self.view_is) c.changed.ensures.lengths
