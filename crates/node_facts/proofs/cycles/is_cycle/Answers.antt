use Rattle.disp_model.specs.Node.{node_at}
use Rattle.node_facts.proofs.Closing.{cycle_is}
use Rattle.node_facts.proofs.cycles.is_cycle.Goals as goal

pub returns-then-rest-gt0 : goal.returns-then-rest-gt0
returns-then-rest-gt0 c fixings are =
    let node = node_at c.args.problem.now fixings c.args.decisions.now in
    cycle_is node c.args.nodes.now c.in-Some.first.now c.in-Some.rest.now c.closes.result c.in-Some.ensures.cases.0 c.if-rest-gt0.true (c.closes.ensures fixings are)
