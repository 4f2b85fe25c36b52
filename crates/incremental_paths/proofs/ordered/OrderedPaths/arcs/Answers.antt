use Rattle.incremental_paths.proofs.KeptFields.{kept_no_cycle}
use Rattle.incremental_paths.proofs.ordered.OrderedPaths.arcs.Goals as goal

pub returns-clause-nodes : goal.returns-clause-nodes
returns-clause-nodes c = rw (← c.self.view_is) c.self.invariant.0.within

pub returns-clause-no_cycle : goal.returns-clause-no_cycle
returns-clause-no_cycle c =
    let f = c.self.inside in
    rw (← c.self.view_is) (kept_no_cycle f.lowers.items f.arcs.items f.begun f.ended f.order f.marks f.lengths.items f.trail.items f.starts.items f.stale f.changes.grown.size c.self.invariant.0)
