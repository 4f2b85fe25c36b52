use Rattle.std.proofs.Common.{length, ap, arith}
use Rattle.share_bound.proofs.Sharing.{none_added, one_more, more_fits, all_added}
use Rattle.share_bound.proofs.known.KnownShares.cost.Goals as goal

pub loop-train-init : goal.loop-train-init
loop-train-init c = record {
  total = none_added c.args.graph.now;
  known = c.requires.known;
}

pub share-requires-clause-known : goal.share-requires-clause-known
share-requires-clause-known c = c.loop-train.invariant.known

pub overflow_add-total : goal.overflow_add-total
overflow_add-total c = omega (
  arith,
  more_fits c.args.graph.now c.loop-train.train c.loop-train.total c.in_ok-share.share
      c.loop-train.invariant.total c.in_ok-share.ensures.share,
)

pub loop-train-preserved : goal.loop-train-preserved
loop-train-preserved c = record {
  total = one_more c.args.graph.now c.loop-train.train c.loop-train.total c.in_ok-share.share
      c.loop-train.invariant.total c.in_ok-share.ensures.share;
  known = c.in_ok-share.ensures.known;
}

pub returns-clause-known : goal.returns-clause-known
returns-clause-known c = c.loop-train.invariant.known

pub returns-clause-bound : goal.returns-clause-bound
returns-clause-bound c =
    let all = ap (λ p. length p.trains) c.requires.node in
    all_added c.args.graph.now c.loop-train.train c.len-train-end.result c.loop-train.total
    c.loop-train.invariant.total (omega (arith, c.loop-train-test.false))
    (omega (arith, c.loop-train.auto.train-end)) (omega (arith, c.len-train-end.ensures, all))
