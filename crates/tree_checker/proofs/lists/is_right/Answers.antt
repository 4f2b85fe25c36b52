use Rattle.std.proofs.Common.{sym, subst}
use Rattle.std.specs.Prelude.{IsTrue, ◌↔◌}
use Rattle.disp_model.specs.Node.{node_at}
use Rattle.tree_checker.specs.declared.lists.ListRule.{ListRule}
use Rattle.tree_checker.specs.Rules.{IsListRight}
use Rattle.tree_checker.proofs.lists.is_right.Goals as goal

pub returns-in-Forced : goal.returns-in-Forced
returns-in-Forced c fixings are =
    let node = node_at c.args.problem.now fixings c.args.decisions.now in
    subst (λ (rule : ListRule). IsTrue c.are_forced.result ↔ IsListRight node rule c.args.walk.now) (sym c.in-Forced.is) (c.are_forced.ensures node are)

pub returns-in-Joined : goal.returns-in-Joined
returns-in-Joined c fixings are =
    let node = node_at c.args.problem.now fixings c.args.decisions.now in
    subst (λ (rule : ListRule). IsTrue c.are_joined.result ↔ IsListRight node rule c.args.walk.now) (sym c.in-Joined.is) (c.are_joined.ensures fixings are)
