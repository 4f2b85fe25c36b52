use Rattle.tree_checker.proofs.Ending.{ends_on_is, ends_nowhere}
use Rattle.tree_checker.proofs.ends.ends_on.Goals as goal

pub returns-in-Some : goal.returns-in-Some
returns-in-Some c = ends_on_is c.args.train c.args.walk.now c.end_of.result c.in-Some.end c.end_of.ensures c.in-Some.is

pub returns-in-None : goal.returns-in-None
returns-in-None c = ends_nowhere c.args.train c.args.walk.now c.end_of.result c.end_of.ensures c.in-None.is
