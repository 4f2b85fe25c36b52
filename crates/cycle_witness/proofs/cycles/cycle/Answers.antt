use Rattle.incremental_paths.proofs.CyclesClosed.{cycle_from_way}
use Rattle.cycle_witness.proofs.cycles.cycle.Goals as goal

pub unreachable-requires : goal.unreachable-requires
unreachable-requires c =
    let none = rw c.in-None.is at c.in_ok-nodes.ensures.no_cycle in
    none c.requires.refused.0 c.requires.refused.1

pub returns-clause-cycle : goal.returns-clause-cycle
returns-clause-cycle c = λ length.
    let way = rw c.in-Some.is at c.in_ok-nodes.ensures.way in
    cycle_from_way c.args.paths.now.arcs (record { from = c.args.from; to = c.args.to; length = length }) c.in-Some.nodes.items way
