use Rattle.std.proofs.Common.{sym}
use Rattle.packed_nodes.specs.Packed.{packed_train_at}
use Rattle.packed_nodes.proofs.Looping.{goes_on_in, is_done_in}
use Rattle.packed_nodes.proofs.check.behind_each_train.Goals as goal

pub loop-listed-preserved : goal.loop-listed-preserved
loop-listed-preserved c =
    goes_on_in packed_train_at c.args.trains.now c.loop-listed.listed-index c.listed-item.result
    c.listed-item.result c.loop-listed.rest.now c.in_ok-rest.rest.now _
    c.loop-listed-test.true (sym c.listed-item.is) c.in_ok-rest.ensures c.loop-listed.invariant

pub returns : goal.returns
returns c = is_done_in packed_train_at c.args.trains.now c.loop-listed.listed-index
    c.loop-listed.rest.now _ c.loop-listed-test.false c.loop-listed.invariant
