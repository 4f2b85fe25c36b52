use Rattle.std.proofs.Common.{◌≡◌, ◌+◌, ◌∙◌}
use Rattle.incremental_paths.proofs.Lifting.{lifted_nodes, lifted_long, lifted_apart, lifted_within, lifted_front, lifted_rest, lifted_ordered, lifted_is, lifted_written, lifted_fits}
use Rattle.incremental_paths.proofs.shifts.lift_marked.Given.{Over}
use Rattle.incremental_paths.proofs.shifts.lift_marked.Goals as goal
use Rattle.incremental_paths.proofs.shifts.lift_marked.Goals.{After-write_from}

are : (g : Over) (c : After-write_from g) → c.write_from.new.nodes ≡ lifted_nodes c.args.marks.now c.args.nodes.now c.args.low (c.args.high + 1)
are g c = lifted_written c.args.places.now c.args.nodes.now c.requires.ordered c.args.marks.now c.args.low c.args.high c.requires.low c.requires.high c.deref.result.now c.write_from.new.nodes (c.deref.ensures.value ∙ c.in_ok-moved.ensures) c.write_from.ensures

pub number-requires-clause-within : goal.number-requires-clause-within
number-requires-clause-within g c =
    let nodes = are g (goal.at.number-requires-clause-within g c).After-write_from in
    let long = lifted_long c.args.places.now c.args.nodes.now c.requires.ordered c.args.marks.now c.args.low c.args.high c.requires.low c.requires.high in
    rw (nodes, long) (rw long at (lifted_within c.args.places.now c.args.nodes.now c.requires.ordered c.args.marks.now c.args.low c.args.high c.requires.low c.requires.high))

pub number-requires-clause-apart : goal.number-requires-clause-apart
number-requires-clause-apart g c =
    let nodes = are g (goal.at.number-requires-clause-apart g c).After-write_from in
    rw nodes (lifted_apart c.args.places.now c.args.nodes.now c.requires.ordered c.args.marks.now c.args.low c.args.high c.requires.low c.requires.high)

pub number-requires-clause-front : goal.number-requires-clause-front
number-requires-clause-front g c =
    let nodes = are g (goal.at.number-requires-clause-front g c).After-write_from in
    rw nodes (lifted_front c.args.places.now c.args.nodes.now c.requires.ordered c.args.marks.now c.args.low c.args.high c.requires.low c.requires.high)

pub number-requires-clause-rest : goal.number-requires-clause-rest
number-requires-clause-rest g c =
    let nodes = are g (goal.at.number-requires-clause-rest g c).After-write_from in
    let long = lifted_long c.args.places.now c.args.nodes.now c.requires.ordered c.args.marks.now c.args.low c.args.high c.requires.low c.requires.high in
    rw (nodes, long) (lifted_rest c.args.places.now c.args.nodes.now c.requires.ordered c.args.marks.now c.args.low c.args.high c.requires.low c.requires.high)

pub returns-clause-ordered : goal.returns-clause-ordered
returns-clause-ordered g c =
    let nodes = are g (goal.at.returns-clause-ordered g c).After-write_from in
    let long = lifted_long c.args.places.now c.args.nodes.now c.requires.ordered c.args.marks.now c.args.low c.args.high c.requires.low c.requires.high in
    let numbered = rw (nodes, long) at c.number.ensures in
    rw nodes (lifted_ordered c.args.places.now c.args.nodes.now c.requires.ordered c.args.marks.now c.args.low c.args.high c.requires.low c.requires.high c.number.new.places c.number.auto.places numbered)

pub returns-clause-lifted : goal.returns-clause-lifted
returns-clause-lifted g c =
    let nodes = are g (goal.at.returns-clause-lifted g c).After-write_from in
    let long = lifted_long c.args.places.now c.args.nodes.now c.requires.ordered c.args.marks.now c.args.low c.args.high c.requires.low c.requires.high in
    let numbered = rw (nodes, long) at c.number.ensures in
    (lifted_is c.args.places.now c.args.nodes.now c.requires.ordered c.args.marks.now c.args.low c.args.high c.requires.low c.requires.high c.number.new.places c.number.auto.places numbered)

pub write_from-requires : goal.write_from-requires
write_from-requires g c = lifted_fits c.args.places.now c.args.nodes.now c.requires.ordered c.args.marks.now c.args.low c.args.high c.requires.low c.requires.high c.deref.result.now (c.deref.ensures.value ∙ c.in_ok-moved.ensures)
