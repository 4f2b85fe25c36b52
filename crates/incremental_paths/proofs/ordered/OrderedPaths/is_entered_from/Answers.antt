use Rattle.incremental_paths.proofs.ordered.OrderedPaths.is_entered_from.Goals as goal

pub returns-clause-yes : goal.returns-clause-yes
returns-clause-yes c = rw (← c.self.view_is, ← c.deref.ensures.value) c.comes_from_marked.ensures.yes

pub returns-clause-rising : goal.returns-clause-rising
returns-clause-rising c = rw (← c.self.view_is) c.self.invariant.0.rising
