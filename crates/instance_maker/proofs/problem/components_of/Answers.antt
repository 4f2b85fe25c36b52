use Rattle.std.proofs.Common.{◌≡◌, ◌/◌, refl, subst, List}
use Rattle.std.specs.Prelude.{slice_get, Some}
use Rattle.instance_maker.specs.declared.draws.Pair.{Pair}
use Rattle.instance_maker.specs.Made.{made_components, made_late, pair_count}
use Rattle.instance_maker.proofs.Drawn.{drawn_at, one_more}
use Rattle.instance_maker.proofs.problem.components_of.Goals as goal

pub loop-t-preserved : goal.loop-t-preserved
loop-t-preserved c number is =
    let t = c.loop-t.t in
    let at = subst (λ (l : List Pair). slice_get l (t / 2) ≡ Some c.pair_of-pair.result) is
    c.pair_of-pair.ensures in
    let drawn = drawn_at number (pair_count c.args.count) (t / 2) c.pair_of-pair.result at in
    one_more (made_components number) t _ _ _ (made_late number t) refl c.in_ok-push.ensures.ok
    (c.loop-t.invariant number is) (c.late_at.ensures number drawn)
