use Rattle.std.proofs.Common.{Bool, sym, subst}
use Rattle.std.specs.Prelude.{IfOk, IsTrue, ◌↔◌}
use Rattle.disp_model.specs.declared.tree.Verdict.{Verdict}
use Rattle.disp_model.specs.Trees.{ShareVerdict}
use Rattle.tree_checker.specs.KnownNodes.{node_here}
use Rattle.tree_checker.proofs.showing.share_verdict.Goals as goal

pub returns-in-Optimal : goal.returns-in-Optimal
returns-in-Optimal c =
    let node = node_here c.args.here in
    subst (λ (verdict : Verdict). IfOk c.shares_enough.result (λ (shown : Bool). IsTrue shown ↔ ShareVerdict node verdict c.args.walks.now c.args.listed.now)) (sym c.in-Optimal.is) c.shares_enough.ensures
