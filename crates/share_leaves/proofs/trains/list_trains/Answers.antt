use Rattle.std.proofs.Common.{arith}
use Rattle.share_bound.specs.Bases.{IsShareWithin}
use Rattle.share_bound.proofs.Sharing.{one_more, more_fits}
use Rattle.share_leaves.proofs.Listing.{read_within}
use Rattle.share_leaves.proofs.trains.list_trains.Goals as goal

pub overflow_add-total : goal.overflow_add-total
overflow_add-total c =
    let share = c.of_train.result.now.last.share in
    let is : IsShareWithin c.args.graph.now c.loop-train.train share = read_within c.args.graph.now
    c.loop-train.train c.prepare.new.known c.of_train.result.now c.in_ok-prepare.ensures.current
    c.of_train.ensures in
    omega (
      arith,
      more_fits c.args.graph.now c.loop-train.train c.loop-train.total share
          c.loop-train.invariant.total is,
    )

pub loop-train-preserved : goal.loop-train-preserved
loop-train-preserved c =
    let share = c.of_train.result.now.last.share in
    record {
      listed = c.in_ok-list.ensures;
      total = one_more c.args.graph.now c.loop-train.train c.loop-train.total share
          c.loop-train.invariant.total (read_within c.args.graph.now c.loop-train.train
          c.prepare.new.known c.of_train.result.now c.in_ok-prepare.ensures.current
          c.of_train.ensures);
      known = c.in_ok-prepare.ensures.known;
    }
