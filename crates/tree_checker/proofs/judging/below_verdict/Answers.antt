use Rattle.std.proofs.Common.{sym, subst}
use Rattle.std.specs.Prelude.{IfOk}
use Rattle.disp_model.specs.declared.tree.Verdict.{Verdict}
use Rattle.disp_model.specs.Trees.{Shows}
use Rattle.tree_checker.specs.KnownNodes.{node_here}
use Rattle.tree_checker.specs.Rules.{KeepsAllRules, IsFirstRule}
use Rattle.tree_checker.proofs.Refusing.{no_cost}
use Rattle.tree_checker.proofs.judging.below_verdict.Goals as goal

pub below_cost-requires-clause-not_shown : goal.below_cost-requires-clause-not_shown
below_cost-requires-clause-not_shown c = subst (λ (v : Verdict). Shows (node_here c.args.here) v c.args.leaf.now → ⊥) c.in-Optimal.is c.requires.not_shown

pub below_cost-requires-clause-keeps : goal.below_cost-requires-clause-keeps
below_cost-requires-clause-keeps c = subst (λ (v : Verdict). KeepsAllRules (node_here c.args.here) v c.args.leaf.now) c.in-Optimal.is c.requires.keeps

pub returns-in-Optimal : goal.returns-in-Optimal
returns-in-Optimal c = subst (λ (v : Verdict). IfOk c.below_cost.result (IsFirstRule (node_here c.args.here) v c.args.leaf.now)) (sym c.in-Optimal.is) c.below_cost.ensures

pub returns-in-Infeasible : goal.returns-in-Infeasible
returns-in-Infeasible c =
    let node = node_here c.args.here in
    absurd (no_cost node c.args.leaf.now (subst (λ (v : Verdict). KeepsAllRules node v c.args.leaf.now) c.in-Infeasible.is c.requires.keeps) (subst (λ (v : Verdict). Shows node v c.args.leaf.now → ⊥) c.in-Infeasible.is c.requires.not_shown))
