use Rattle.std.proofs.Common.{arith}
use Rattle.event_windows.proofs.Numbering.{count_more, firsts_more}
use Rattle.event_windows.proofs.numbers.first_numbers.Goals as goal

pub loop-train-preserved : goal.loop-train-preserved
loop-train-preserved c =
    let i = c.loop-train.train-index in
    let firsts = c.loop-train.firsts.items in
    let items = c.in_ok-push.ensures.items in
    let kept = c.loop-train.invariant in
    record {
      long = omega (arith, c.in_ok-push.ensures.len, kept.long);
      count = count_more c.args.problem.now c.as_slice-train-items.result.now i c.loop-train.count c.len-count.result c.train-item.result c.as_slice-train-items.ensures c.loop-train-test.true c.train-item.is c.len-count.ensures kept.count;
      first = firsts_more c.args.problem.now firsts c.push.new.self.items c.loop-train.count i items kept.long kept.count kept.first;
    }
