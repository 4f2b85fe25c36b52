use Rattle.disp_model.specs.Node.{node_at}
use Rattle.node_facts.proofs.Closing.{arc_found, arc_missing}
use Rattle.node_facts.proofs.cycles.has_arc.Goals as goal

pub returns-in-None : goal.returns-in-None
returns-in-None c fixings are = arc_missing (node_at c.args.problem.now fixings c.args.decisions.now) c.args.from c.args.to c.longest_arc.result (c.longest_arc.ensures fixings are) c.in-None.is

pub returns-in-Some : goal.returns-in-Some
returns-in-Some c fixings are = arc_found (node_at c.args.problem.now fixings c.args.decisions.now) c.args.from c.args.to c.longest_arc.result c.in-Some.field-0 (c.longest_arc.ensures fixings are) c.in-Some.is
