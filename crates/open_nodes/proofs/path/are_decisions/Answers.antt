use Rattle.std.proofs.Common.{◌≡◌, ◌-◌, suc, length, refl, arith}
use Rattle.open_nodes.proofs.Paths.{no_true, compare_all, compare_more, compare_none}
use Rattle.open_nodes.proofs.path.are_decisions.Goals as goal

pub loop-k-init : goal.loop-k-init
loop-k-init c = rw c.above_at-at.ensures (compare_all c.args.places.now c.requires c.args.number c.args.decisions.now (length c.args.decisions.now) refl)

pub returns-in_default : goal.returns-in_default
returns-in_default c =
    let one : c.loop-k.k ≡ suc (c.loop-k.k - 1) = omega (arith, c.loop-k-test.true) in
    (λ no. absurd (no_true no), λ is. absurd (compare_none c.args.places.now c.requires c.args.number c.args.decisions.now c.loop-k.k (c.loop-k.k - 1) one (rw c.in_default.is at c.loop-k.invariant) is))

pub loop-k-preserved : goal.loop-k-preserved
loop-k-preserved c =
    let one : c.loop-k.k ≡ suc (c.loop-k.k - 1) = omega (arith, c.loop-k-test.true) in
    rw c.above_at-at-then-has_at.ensures
    (compare_more c.args.places.now c.requires c.args.number c.args.decisions.now c.loop-k.k (c.loop-k.k - 1) one c.in-Some.above (rw c.in-Some.is at c.loop-k.invariant) (c.has_at.ensures.0 c.if-has_at.true))
