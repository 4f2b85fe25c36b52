use Rattle.std.proofs.lemmas.Result.{err_from_is_err_and}
use Rattle.packed_nodes.specs.Packed.{packed_items_at, packed_train_at}
use Rattle.packed_nodes.proofs.Looping.{goes_on, ends, is_done}
use Rattle.packed_nodes.proofs.read.trains_in.Goals as goal

pub returns-in_err-listed : goal.returns-in_err-listed
returns-in_err-listed c =
    let p = err_from_is_err_and c.from_residual.result c.from_residual.ensures.1 in
    rw (p.1, p.2) (ends packed_train_at c.in_err-listed.field-0.0 c.loop.trains.items c.args.count
    c.loop.counter c.loop.rest.now (packed_items_at packed_train_at c.args.count c.args.bytes.now)
    c.loop-test.true c.in_err-listed.ensures c.loop.invariant)

pub loop-preserved : goal.loop-preserved
loop-preserved c =
    rw c.in_ok-push.ensures.items (goes_on packed_train_at c.loop.trains.items c.args.count
    c.loop.counter c.loop.rest.now c.in_ok-listed.listed c.in_ok-listed.after.now
    (packed_items_at packed_train_at c.args.count c.args.bytes.now) c.loop-test.true c.in_ok-listed.ensures
    c.loop.invariant)

pub returns : goal.returns
returns c = is_done packed_train_at c.loop.trains.items c.args.count c.loop.counter c.loop.rest.now
    (packed_items_at packed_train_at c.args.count c.args.bytes.now) c.loop-test.false c.loop.invariant
