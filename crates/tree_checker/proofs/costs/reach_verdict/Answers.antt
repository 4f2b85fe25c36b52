use Rattle.std.proofs.Common.{Bool, sym, subst}
use Rattle.std.specs.Prelude.{IfOk, IsTrue, ◌↔◌}
use Rattle.disp_model.specs.declared.tree.Verdict.{Verdict}
use Rattle.disp_model.specs.Trees.{ReachVerdict}
use Rattle.tree_checker.specs.KnownNodes.{node_here}
use Rattle.tree_checker.proofs.costs.reach_verdict.Goals as goal

pub returns-in-Optimal : goal.returns-in-Optimal
returns-in-Optimal c =
    let node = node_here c.args.here in
    subst (λ (verdict : Verdict). IfOk c.cost_enough.result (λ (reached : Bool). IsTrue reached ↔ ReachVerdict node verdict c.args.walks.now)) (sym c.in-Optimal.is) c.cost_enough.ensures
