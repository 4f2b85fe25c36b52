use Rattle.node_facts.proofs.Lengths.{ends_is}
use Rattle.node_facts.proofs.late.end_of.Goals as goal

pub returns-in-Some : goal.returns-in-Some
returns-in-Some c o = ends_is c.args.walk.now c.in-Some.field-0-1.now c.in-Some.end.now o c.in-Some.ensures.cases.0
