use Rattle.std.proofs.Common.{List, subst}
use Rattle.std.specs.Prelude.{IfOk}
use Rattle.disp_model.specs.declared.fixing.Fixing.{Fixing}
use Rattle.tree_checker.specs.Checks.{IsChecked}
use Rattle.tree_checker.proofs.checking.check.Goals as goal

pub returns : goal.returns
returns c = subst (λ (l : List Fixing). IfOk c.check_tree.result (IsChecked c.args.problem.now l c.args.verdict c.args.tree.now)) c.in_ok-fixings.ensures c.check_tree.ensures
