use Rattle.std.proofs.Common.{List, refl, sym, subst}
use Rattle.std.specs.Prelude.{All}
use Rattle.std.proofs.lemmas.Bool.{false≢true}
use Rattle.disp_model.specs.declared.train.Op.{Op}
use Rattle.disp_model.specs.declared.tree.TrainWalks.{TrainWalks}
use Rattle.disp_model.specs.Node.{node_at}
use Rattle.tree_checker.specs.Rules.{IsListRight}
use Rattle.tree_checker.proofs.Keeping.{one_more}
use Rattle.tree_checker.proofs.rights.trains_are_right.Goals as goal

pub returns-then-not-lists_are_right : goal.returns-then-not-lists_are_right
returns-then-not-lists_are_right c fixings are =
    let right = IsListRight (node_at c.args.problem.now fixings c.args.decisions.now) c.args.rule in (
      λ h. absurd (false≢true h),
      λ all. absurd (false≢true ((c.if-not-lists_are_right.ensures fixings are).1 (
          subst (λ (l : List (List Op)). All right l) (sym c.as_slice.ensures)
          (subst (λ (t : TrainWalks). All right t.walks) (sym c.listed-item.is) (all c.loop-listed.listed-index c.listed-item.result c.loop-listed-test.true))
          ))),
    )

pub loop-listed-preserved : goal.loop-listed-preserved
loop-listed-preserved c fixings are =
    let right = IsListRight (node_at c.args.problem.now fixings c.args.decisions.now) c.args.rule in
    let here = subst (λ (l : List (List Op)). All right l) c.as_slice.ensures ((c.if-not-lists_are_right.ensures fixings are).0 refl) in
    one_more (λ (t : TrainWalks). All right t.walks) c.args.shown.now c.loop-listed.listed-index c.listed-item.result c.loop-listed-test.true (subst (λ (t : TrainWalks). All right t.walks) c.listed-item.is here) (c.loop-listed.invariant fixings are)
