use Rattle.std.proofs.Common.{List, subst}
use Rattle.std.specs.Prelude.{IfOk, IsTrue, ◌↔◌}
use Rattle.disp_model.specs.declared.fixing.Fixing.{Fixing}
use Rattle.disp_model.specs.Node.{node_at}
use Rattle.disp_model.specs.Trees.{LeafHolds}
use Rattle.tree_checker.proofs.judging.check_leaf.Goals as goal

pub returns : goal.returns
returns c =
    subst (λ (l : List Fixing). IfOk c.leaf_holds.result (λ holds. IsTrue holds ↔ LeafHolds (node_at c.args.problem.now l c.args.decisions.now) c.args.verdict c.args.leaf.now)) c.in_ok-fixings.ensures
    c.leaf_holds.ensures
