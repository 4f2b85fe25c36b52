use Rattle.std.proofs.Common.{◌≡◌, ◌<◌, get_or, length, arith}
use Rattle.std.proofs.lemmas.List.{get_or_read}
use Rattle.incremental_paths.proofs.KeptFields.{kept_longest}
use Rattle.incremental_paths.proofs.ordered.OrderedPaths.length.Goals as goal

pub returns-clause-longest : goal.returns-clause-longest
returns-clause-longest c =
    let f = c.self.inside in
    let lt : c.args.node < length f.lowers.items = rw (← c.self.view_is) at c.requires in
    let read : c.index.result.now ≡ get_or f.lengths.items c.args.node 0 = get_or_read f.lengths.items c.args.node c.index.result.now (omega (arith, lt, c.self.invariant.0.a_length_each)) c.index.ensures 0 in
    rw (← c.self.view_is, read) (kept_longest f.lowers.items f.arcs.items f.begun f.ended f.order f.marks f.lengths.items f.trail.items f.starts.items f.stale f.changes.grown.size c.self.invariant.0 c.args.node lt)

pub returns-clause-of_all_walks : goal.returns-clause-of_all_walks
returns-clause-of_all_walks c =
    let f = c.self.inside in
    let lt : c.args.node < length f.lowers.items = rw (← c.self.view_is) at c.requires in
    let read : c.index.result.now ≡ get_or f.lengths.items c.args.node 0 = get_or_read f.lengths.items c.args.node c.index.result.now (omega (arith, lt, c.self.invariant.0.a_length_each)) c.index.ensures 0 in
    rw (← c.self.view_is, read) (c.self.invariant.0.longest.greatest c.args.node)
