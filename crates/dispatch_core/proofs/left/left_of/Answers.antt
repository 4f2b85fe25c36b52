use Rattle.std.proofs.Common.{◌≡◌, refl, sym, subst}
use Rattle.std.specs.Prelude.{Some, slice_get}
use Rattle.std.proofs.lemmas.Option.{slice_get_read}
use Rattle.disp_model.specs.declared.tree.TreeNode.{TreeNode}
use Rattle.dispatch_core.proofs.Leaving.{is_next, looked_at, all_looked_at}
use Rattle.dispatch_core.proofs.left.left_of.Goals as goal

pub leave-requires : goal.leave-requires
leave-requires c =
    let tree = c.args.nodes.now in
    let item = slice_get_read tree _ c.loop-packed.packed-index c.packed-item.result refl c.loop-packed-test.true c.packed-item.is in
    let there = subst (λ (node : TreeNode). slice_get tree c.loop-packed.packed-index ≡ Some node) (sym c.in_ok-node.ensures) item in
    is_next c.args.problem.now c.args.fixings.now c.args.decisions.now tree c.args.bounds.now c.loop-packed.packed-index c.in_ok-node.node there c.loop-packed.pending.items c.loop-packed.left.nodes.items
    c.loop-packed.left.bounds.items c.loop-packed.invariant

pub loop-packed-preserved : goal.loop-packed-preserved
loop-packed-preserved c =
    let tree = c.args.nodes.now in
    let item = slice_get_read tree _ c.loop-packed.packed-index c.packed-item.result refl c.loop-packed-test.true c.packed-item.is in
    let there = subst (λ (node : TreeNode). slice_get tree c.loop-packed.packed-index ≡ Some node) (sym c.in_ok-node.ensures) item in
    looked_at c.args.problem.now c.args.fixings.now c.args.decisions.now tree c.args.bounds.now c.loop-packed.packed-index c.in_ok-node.node there c.loop-packed.pending.items c.leave.new.pending.items
    c.loop-packed.left.nodes.items c.leave.new.left.nodes.items c.loop-packed.left.bounds.items c.leave.new.left.bounds.items c.loop-packed.invariant c.in_ok-leave.ensures

pub returns : goal.returns
returns c = all_looked_at c.args.problem.now c.args.fixings.now c.args.decisions.now c.args.nodes.now c.args.bounds.now c.loop-packed.packed-index c.loop-packed.pending.items c.loop-packed.left.nodes.items
    c.loop-packed.left.bounds.items c.loop-packed-test.false c.loop-packed.invariant
