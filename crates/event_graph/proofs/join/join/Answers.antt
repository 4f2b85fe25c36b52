use Rattle.event_graph.proofs.Naming.{both_there, starts_there, ends_there, numbers_named, cycle_or, fronts_short, no_cycle_joined}
use Rattle.event_graph.proofs.join.join.Goals as goal

pub cycle_with-requires : goal.cycle_with-requires
cycle_with-requires c = record { nodes = both_there c.requires.0 c.args.ops.now c.args.paths.now c.args.arcs.now c.requires.1 }

pub closing-requires : goal.closing-requires
closing-requires c = rw c.deref.ensures.value (numbers_named c.requires.0 c.args.ops.now c.args.paths.now c.args.arcs.now c.in-Ok-Some.numbers.items c.requires.1 (rw c.in-Ok-Some.field-0-is at c.in-Ok-Some.ensures.cycle))

pub add_all-requires-clause-nodes : goal.add_all-requires-clause-nodes
add_all-requires-clause-nodes c = rw c.cycle_with.ensures.same (starts_there c.requires.0 c.args.ops.now c.args.paths.now c.args.arcs.now c.requires.1)

pub add_all-requires-clause-ends : goal.add_all-requires-clause-ends
add_all-requires-clause-ends c = rw c.cycle_with.ensures.same (ends_there c.requires.0 c.args.ops.now c.args.paths.now c.args.arcs.now c.requires.1)

pub add_all-requires-clause-short : goal.add_all-requires-clause-short
add_all-requires-clause-short c = rw c.cycle_with.ensures.same (fronts_short c.requires.0 c.args.ops.now c.args.paths.now c.args.arcs.now c.requires.1 (rw c.in-Ok-None.field-0-is at c.in-Ok-None.ensures.none))

pub returns-in-Ok-Some-clause-joined : goal.returns-in-Ok-Some-clause-joined
returns-in-Ok-Some-clause-joined c node may = cycle_or node c.args.ops.now c.args.paths.now c.args.arcs.now c.in-Ok-Some.numbers.items c.closing.result may (rw c.in-Ok-Some.field-0-is at c.in-Ok-Some.ensures.cycle) (rw c.deref.ensures.value at c.closing.ensures)

pub returns-in-Ok-clause-joined : goal.returns-in-Ok-clause-joined
returns-in-Ok-clause-joined c node may = no_cycle_joined node c.args.ops.now c.args.paths.now c.args.arcs.now may (rw c.in-Ok-None.field-0-is at c.in-Ok-None.ensures.none)
