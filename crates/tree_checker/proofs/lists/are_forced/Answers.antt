use Rattle.std.proofs.Common.{refl}
use Rattle.disp_model.specs.Routes.{IsForced}
use Rattle.tree_checker.proofs.Keeping.{one_more}
use Rattle.tree_checker.proofs.lists.are_forced.Goals as goal

pub loop-op-preserved : goal.loop-op-preserved
loop-op-preserved c node are = one_more (IsForced node) c.args.walk.now c.loop-op.op-index _ c.loop-op-test.true ((c.if-not-is_forced.ensures node are).0 refl) (c.loop-op.invariant node are)
