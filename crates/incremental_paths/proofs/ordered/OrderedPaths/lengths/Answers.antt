use Rattle.incremental_paths.proofs.KeptFields.{kept_longest}
use Rattle.incremental_paths.proofs.ordered.OrderedPaths.lengths.Goals as goal

pub returns-clause-longest : goal.returns-clause-longest
returns-clause-longest c =
    let f = c.self.inside in
    rw (← c.self.view_is, c.deref.ensures.value) (λ node lt. kept_longest f.lowers.items f.arcs.items f.begun f.ended f.order f.marks f.lengths.items f.trail.items f.starts.items f.stale f.changes.grown.size c.self.invariant.0 node lt)
