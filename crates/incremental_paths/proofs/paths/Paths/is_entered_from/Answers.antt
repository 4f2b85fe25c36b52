use Rattle.incremental_paths.proofs.paths.Paths.is_entered_from.Goals as goal

pub returns-clause-rising : goal.returns-clause-rising
returns-clause-rising c = rw (← c.self.view_is) (c.self.inside.ordered.places, c.is_entered_from.ensures.rising)
