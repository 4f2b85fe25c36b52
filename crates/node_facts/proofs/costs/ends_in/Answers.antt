use Rattle.disp_model.specs.Nodes.{component_op}
use Rattle.node_facts.proofs.Pricing.{ends_same, ends_nowhere}
use Rattle.node_facts.proofs.costs.ends_in.Goals as goal

pub returns-in-Some : goal.returns-in-Some
returns-in-Some c = ends_same c.args.walk.now c.end_of.result c.in-Some.end (component_op c.args.component.now) c.is_same.result c.end_of.ensures c.in-Some.is c.is_same.ensures

pub returns-in-None : goal.returns-in-None
returns-in-None c = ends_nowhere c.args.walk.now c.end_of.result (component_op c.args.component.now) c.end_of.ensures c.in-None.is
