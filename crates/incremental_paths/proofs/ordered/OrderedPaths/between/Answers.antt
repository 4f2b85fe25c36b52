use Rattle.incremental_paths.proofs.KeptFields.{kept_no_cycle_back}
use Rattle.incremental_paths.proofs.ordered.OrderedPaths.between.Goals as goal

pub returns-clause-no_cycle : goal.returns-clause-no_cycle
returns-clause-no_cycle c =
    let f = c.self.inside in
    let none = rw c.deref-2.ensures.value at c.in_ok-find_way.ensures.none in
    rw (← c.self.view_is) (kept_no_cycle_back f.lowers.items f.arcs.items f.begun f.ended f.order f.marks f.lengths.items f.trail.items f.starts.items f.stale f.changes.grown.size c.self.invariant.0 c.args.from c.args.to c.in_ok-find_way.field-0 none)
