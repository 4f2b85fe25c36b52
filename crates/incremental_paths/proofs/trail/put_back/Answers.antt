use Rattle.std.proofs.Common.{◌≡◌, arith}
use Rattle.incremental_paths.proofs.trail.put_back.Goals as goal

pub returns-clause-lengths : goal.returns-clause-lengths
returns-clause-lengths c =
    let at_start : c.loop-i.i ≡ c.args.start = omega (arith, c.loop-i.invariant.low, c.loop-i-test.false) in
    rw at_start at c.loop-i.invariant.lengths
