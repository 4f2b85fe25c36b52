use Rattle.incremental_paths.proofs.paths.Paths.add_counted.Goals as goal

pub returns-clause-few : goal.returns-clause-few
returns-clause-few g c = rw (← c.self.view_is) (c.self.inside.ordered.places, c.add_counted.ensures.rising, c.add_counted.ensures.few)
