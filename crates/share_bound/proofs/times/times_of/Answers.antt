use Rattle.std.proofs.Common.{◌≡◌, ℕ, subst, arith}
use Rattle.share_bound.specs.Times.{base_in, IsEntering}
use Rattle.share_bound.proofs.Entering.{entered_all}
use Rattle.share_bound.proofs.times.times_of.Goals as goal

pub returns : goal.returns
returns c =
    let train = c.args.train.now in
    let base = base_in c.args.bases.now in
    let order = c.args.order.now in
    let rows = c.args.rows.now in
    let times = c.loop-place.times.items in
    let none : c.loop-place.place ≡ 0 = omega (arith, c.loop-place-test.false) in
    entered_all train base order rows times c.requires.laid
    (subst (λ (n : ℕ). IsEntering train base order rows n times) none c.loop-place.invariant.1)
