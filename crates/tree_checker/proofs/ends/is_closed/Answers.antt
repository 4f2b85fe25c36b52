use Rattle.std.proofs.Common.{List, sym, subst}
use Rattle.std.specs.Prelude.{IsTrue, ◌↔◌}
use Rattle.disp_model.specs.declared.train.Op.{Op}
use Rattle.disp_model.specs.declared.tree.Leaf.{Leaf}
use Rattle.disp_model.specs.Node.{node_at}
use Rattle.tree_checker.specs.Rules.{IsJoinedBack, IsLeafClosed}
use Rattle.tree_checker.proofs.ends.is_closed.Goals as goal

pub returns-in-Cycle : goal.returns-in-Cycle
returns-in-Cycle c fixings are =
    let node = node_at c.args.problem.now fixings c.args.decisions.now in
    subst (λ (leaf : Leaf). IsTrue c.is_joined_back.result ↔ IsLeafClosed node leaf) (sym c.in-Cycle.is) (subst (λ (l : List Op). IsTrue c.is_joined_back.result ↔ IsJoinedBack node l) c.as_slice.ensures (c.is_joined_back.ensures fixings are))
