use Rattle.incremental_paths.proofs.paths.Paths.lengths.Goals as goal

pub returns-clause-longest : goal.returns-clause-longest
returns-clause-longest c = rw (← c.self.view_is) c.lengths.ensures.longest
