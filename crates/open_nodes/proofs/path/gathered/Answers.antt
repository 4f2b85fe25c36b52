use Rattle.std.proofs.Common.{◌≡◌, ◌+◌, ◌-◌, suc, arith}
use Rattle.open_nodes.proofs.Paths.{gather_more}
use Rattle.open_nodes.proofs.path.gathered.Goals as goal

pub loop-preserved : goal.loop-preserved
loop-preserved c =
    let one : c.args.most - c.loop.counter ≡ suc (c.args.most - (c.loop.counter + 1)) = omega (arith, c.loop-test.true) in
    rw (c.above_at-at.ensures, c.in_ok-push.ensures.items)
    (gather_more c.args.places.now c.in-Some.above (c.args.most - (c.loop.counter + 1)) (c.args.most - c.loop.counter) c.loop.up.items _ one (rw c.in-Some.is at c.loop.invariant))
