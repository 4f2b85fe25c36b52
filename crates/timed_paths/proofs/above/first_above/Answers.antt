use Rattle.std.proofs.Common.{arith}
use Rattle.timed_paths.proofs.above.first_above.Goals as goal

pub returns : goal.returns
returns c node lt is = c.loop-node.invariant node (omega (arith, lt, c.loop-node-test.false)) is
