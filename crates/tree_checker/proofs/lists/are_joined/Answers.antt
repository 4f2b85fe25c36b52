use Rattle.std.proofs.Common.{refl}
use Rattle.std.proofs.lemmas.Bool.{false≢true}
use Rattle.disp_model.specs.Node.{node_at}
use Rattle.tree_checker.proofs.Keeping.{joined_more, not_joined, joined_all}
use Rattle.tree_checker.proofs.lists.are_joined.Goals as goal

pub returns-then-not-has_arc : goal.returns-then-not-has_arc
returns-then-not-has_arc c fixings are =
    let node = node_at c.args.problem.now fixings c.args.decisions.now in (
      λ h. absurd (false≢true h),
      λ joined. absurd (not_joined node c.args.walk.now c.loop-place.place _ _ c.loop-place.auto.place c.loop-place-test.true (λ arc. false≢true ((c.if-not-has_arc.ensures fixings are).1 arc)) joined),
    )

pub loop-place-preserved : goal.loop-place-preserved
loop-place-preserved c fixings are =
    joined_more (node_at c.args.problem.now fixings c.args.decisions.now) c.args.walk.now c.loop-place.place _ _ ((c.if-not-has_arc.ensures fixings are).0 refl) (c.loop-place.invariant fixings are)

pub returns : goal.returns
returns c fixings are =
    (λ h. joined_all (node_at c.args.problem.now fixings c.args.decisions.now) c.args.walk.now c.loop-place.place c.loop-place-test.false (c.loop-place.invariant fixings are), λ joined. refl)
