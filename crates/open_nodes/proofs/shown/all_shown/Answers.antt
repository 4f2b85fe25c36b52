use Rattle.std.proofs.Common.{◌≡◌, ◌+◌, ◌-◌, suc, length, arith}
use Rattle.open_nodes.specs.Preorder.{preorder}
use Rattle.open_nodes.specs.Shown.{all_shown}
use Rattle.open_nodes.proofs.Showing.{show_more}
use Rattle.open_nodes.proofs.shown.all_shown.Goals as goal

pub loop-preserved : goal.loop-preserved
loop-preserved c =
    let places = c.args.places.now in
    let kept = c.args.kept.now in
    let one : length places - c.loop.counter ≡ suc (length places - (c.loop.counter + 1)) = omega (arith, c.loop-test.true) in
    rw (c.in_ok-show.ensures, c.next_at-at.ensures)
    (show_more places kept c.loop.tree (all_shown places kept (preorder places)) c.loop.at (length places - c.loop.counter) c.loop.invariant c.in-Some.number (length places - (c.loop.counter + 1)) c.in-Some.is one)
