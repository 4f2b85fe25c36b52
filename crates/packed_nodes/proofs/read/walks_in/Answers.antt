use Rattle.std.proofs.Common.{[]}
use Rattle.std.proofs.lemmas.Result.{err_from_is_err_and}
use Rattle.packed_nodes.specs.Packed.{packed_items_behind, packed_walk_at, walk_itself}
use Rattle.packed_nodes.proofs.Looping.{next_goes_on, walk_ends, walk_is_done}
use Rattle.packed_nodes.proofs.read.walks_in.Goals as goal

pub returns-in_err-walk : goal.returns-in_err-walk
returns-in_err-walk c =
    let p = err_from_is_err_and c.from_residual.result c.from_residual.ensures.1 in
    rw (p.1, p.2) (walk_ends walk_itself packed_walk_at c.in_err-walk.field-0.0 _ c.loop.walks.items
    c.args.count c.loop.counter c.loop.rest.now
    (packed_items_behind walk_itself packed_walk_at [] c.args.count c.args.bytes.now)
    c.loop-test.true
    (rw (← c.deref.ensures.value, ← c.last_train_walk.ensures) c.in_err-walk.ensures)
    c.loop.invariant)

pub loop-preserved : goal.loop-preserved
loop-preserved c =
    rw c.in_ok-push.ensures.items (next_goes_on walk_itself packed_walk_at c.loop.walks.items
    c.args.count c.loop.counter c.loop.rest.now c.in_ok-walk.walk c.in_ok-walk.after.now
    (packed_items_behind walk_itself packed_walk_at [] c.args.count c.args.bytes.now)
    c.loop-test.true
    (rw (← c.deref.ensures.value, ← c.last_train_walk.ensures) c.in_ok-walk.ensures)
    c.loop.invariant)

pub returns : goal.returns
returns c = walk_is_done walk_itself packed_walk_at _ c.loop.walks.items c.args.count c.loop.counter
    c.loop.rest.now (packed_items_behind walk_itself packed_walk_at [] c.args.count
    c.args.bytes.now)
    c.loop-test.false c.loop.invariant
