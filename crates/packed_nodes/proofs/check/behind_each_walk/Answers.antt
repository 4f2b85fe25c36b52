use Rattle.std.proofs.Common.{sym, ◌∙◌}
use Rattle.packed_nodes.specs.Packed.{packed_walk_at, walk_itself}
use Rattle.packed_nodes.proofs.Looping.{walk_goes_on_in, walk_is_done_in}
use Rattle.packed_nodes.proofs.check.behind_each_walk.Goals as goal

pub loop-walk-preserved : goal.loop-walk-preserved
loop-walk-preserved c =
    walk_goes_on_in walk_itself packed_walk_at c.loop-walk.front.now c.args.walks.now
    c.loop-walk.walk-index c.walk-item.result _ c.loop-walk.rest.now c.in_ok-rest.rest.now _
    c.loop-walk-test.true (sym c.walk-item.is ∙ sym c.as_slice-ops.ensures) c.in_ok-rest.ensures
    c.loop-walk.invariant

pub returns : goal.returns
returns c = walk_is_done_in walk_itself packed_walk_at c.loop-walk.front.now c.args.walks.now
    c.loop-walk.walk-index c.loop-walk.rest.now _ c.loop-walk-test.false c.loop-walk.invariant
