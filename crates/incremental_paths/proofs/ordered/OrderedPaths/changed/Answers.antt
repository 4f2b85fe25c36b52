use Rattle.std.proofs.Common.{get_or, arith}
use Rattle.incremental_paths.proofs.KeptFields.{kept_longest}
use Rattle.incremental_paths.proofs.ordered.OrderedPaths.changed.Goals as goal

pub returns-clause-lengths : goal.returns-clause-lengths
returns-clause-lengths c =
    let f = c.self.inside in
    rw (← c.self.view_is)
    (λ k d lt. (
      get_or f.lengths.items (get_or f.changes.grown.listed k d) 0,
      kept_longest f.lowers.items f.arcs.items f.begun f.ended f.order f.marks f.lengths.items f.trail.items f.starts.items f.stale f.changes.grown.size c.self.invariant.0 (get_or f.changes.grown.listed k d)
          (omega (arith, c.grown.ensures.within k d lt, c.self.invariant.0.room_for_each)),
    ))
