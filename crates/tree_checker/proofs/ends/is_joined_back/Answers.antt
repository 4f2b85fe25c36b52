use Rattle.disp_model.specs.Node.{node_at}
use Rattle.tree_checker.proofs.Ending.{joined_back_is, not_ended}
use Rattle.tree_checker.proofs.ends.is_joined_back.Goals as goal

pub returns-in-Some-end_of : goal.returns-in-Some-end_of
returns-in-Some-end_of c fixings are =
    let look = c.in-Some.ensures.lookup in
    joined_back_is (node_at c.args.problem.now fixings c.args.decisions.now) c.args.nodes.now c.in-Some.first.now c.end_of.result c.in-Some-end_of.last c.has_arc.result look.1 c.end_of.ensures c.in-Some-end_of.is look.3.0 (c.has_arc.ensures fixings are)

pub returns-in-None : goal.returns-in-None
returns-in-None c fixings are = not_ended (node_at c.args.problem.now fixings c.args.decisions.now) c.args.nodes.now c.end_of.result c.end_of.ensures c.in-None.is
