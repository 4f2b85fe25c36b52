use Rattle.std.proofs.Common.{◌<◌, length, get_or, arith}
use Rattle.incremental_paths.specs.declared.arc.Arc.{Arc}
use Rattle.incremental_paths.proofs.Pairs.{contains_at}
use Rattle.incremental_paths.proofs.Tracing.{arc_bound}
use Rattle.incremental_paths.proofs.back.advised.Goals as goal

-- an element that no arc is
abbrev none : Arc
none = record { from = 0; to = 0; length = 0 }

pub overflow_add-lengths : goal.overflow_add-lengths
overflow_add-lengths c =
    let arcs = c.args.arcs.now in
    let at = c.in_ok-index.index in
    let lt : at < length arcs = omega arith in
    let are = c.requires.lengths in
    let bound = arc_bound are.0 arcs are.2 c.args.lengths.now are.3 (get_or arcs at none) (contains_at arcs at none lt) in
    omega (arith, bound, c.type_inv.lengths (get_or arcs at none).to)
