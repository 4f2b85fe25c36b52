use Rattle.std.proofs.Common.{◌<◌, length}
use Rattle.incremental_paths.proofs.KeptFields.{kept_longest, kept_no_node_twice}
use Rattle.incremental_paths.proofs.ordered.OrderedPaths.walk.Goals as goal

pub returns-clause-once : goal.returns-clause-once
returns-clause-once c =
    let f = c.self.inside in
    let walk = rw (c.deref.ensures.value, c.deref-2.ensures.value) at c.in_ok-walk_back.ensures.walk in
    kept_no_node_twice f.lowers.items f.arcs.items f.begun f.ended f.order f.marks f.lengths.items f.trail.items f.starts.items f.stale f.changes.grown.size c.self.invariant.0 c.args.node c.in_ok-walk_back.field-0.items walk

pub returns-clause-longest : goal.returns-clause-longest
returns-clause-longest c =
    let f = c.self.inside in
    let lt : c.args.node < length f.lowers.items = rw (← c.self.view_is) at c.requires in
    let longest = rw (c.deref.ensures.value, c.deref-2.ensures.value, c.deref-3.ensures.value) at c.in_ok-walk_back.ensures.longest in
    rw (← c.self.view_is, longest) (kept_longest f.lowers.items f.arcs.items f.begun f.ended f.order f.marks f.lengths.items f.trail.items f.starts.items f.stale f.changes.grown.size c.self.invariant.0 c.args.node lt)
