use Rattle.std.proofs.Common.{◌≡◌, ◌++◌, take, arith}
use Rattle.std.proofs.lemmas.List.{take_all}
use Rattle.incremental_paths.proofs.Reordering.{rising_free}
use Rattle.incremental_paths.proofs.CyclesClosed.{cycle_of_front}
use Rattle.incremental_paths.proofs.closing.link_all.Goals as goal

pub returns-in-Some-clause-cycle : goal.returns-in-Some-clause-cycle
returns-in-Some-clause-cycle g c =
    let closed = rw c.in-Some.is at c.in_ok-nodes.ensures.cycle in
    cycle_of_front c.args.arcs.now.items c.args.more.now c.loop-arc.arc-index _ c.in-Some.nodes.items (omega (arith, c.loop-arc-test.true)) (rw c.loop-arc.invariant.linked at closed)

pub returns-clause-none : goal.returns-clause-none
returns-clause-none g c =
    let all : take c.loop-arc.arc-index c.args.more.now ≡ c.args.more.now = take_all c.loop-arc.arc-index c.args.more.now (omega (arith, c.loop-arc-test.false)) in
    rising_free (c.args.arcs.now.items ++ c.args.more.now) c.loop-arc.order
    (rw (c.loop-arc.invariant.linked, all) at c.loop-arc.invariant.arranged.rising)
