use Rattle.std.proofs.Common.{sym, arith}
use Rattle.disp_model.specs.declared.train.Op.{Op}
use Rattle.event_windows.proofs.Numbering.{op_there, lists_more}
use Rattle.event_windows.proofs.numbers.push_train.Goals as goal

pub loop-op-preserved : goal.loop-op-preserved
loop-op-preserved c =
    let op : Op = record { train = c.args.train; op = c.loop-op.op } in
    let ops = c.loop-op.ops.items in
    let items = c.in_ok-push.ensures.items in
    let has = op_there c.args.problem.now c.as_slice.result.now c.args.train c.loop-op.op c.index-as_slice-train.result c.as_slice.ensures c.requires.there c.index-as_slice-train.is (omega (arith, c.loop-op-test.true, c.len-count.ensures)) in
    record {
      long = omega (arith, c.in_ok-push.ensures.len, c.loop-op.invariant.long);
      lists = lists_more c.args.problem.now ops c.push.new.self.items op items has (sym c.loop-op.invariant.long) c.loop-op.invariant.lists;
    }
