use Rattle.std.proofs.Common.{arith}
use Rattle.share_bound.proofs.shown.walks_of.Goals as goal

pub add_walk-requires-clause-there : goal.add_walk-requires-clause-there
add_walk-requires-clause-there c = record {
  train = c.requires.train;
  op = omega (arith, c.loop-number-test.true, c.requires.count);
}
