use Rattle.incremental_paths.proofs.changes.Changes.tell.Goals as goal

pub returns-clause-grown : goal.returns-clause-grown
returns-clause-grown c = rw (← c.self.view_is, c.keep.ensures.grown) c.insert.ensures.listed
