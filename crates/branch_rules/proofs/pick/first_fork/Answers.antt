use Rattle.std.proofs.Common.{refl}
use Rattle.branch_rules.proofs.Picking.{fork_is_first}
use Rattle.branch_rules.proofs.pick.first_fork.Goals as goal

pub returns-in-Some : goal.returns-in-Some
returns-in-Some c = fork_is_first c.args.graph.now (record { train = c.loop-train.train; op = c.in-Some.op }) c.loop-train.invariant ((c.in-Some.ensures.part c.args.graph.now c.loop-train.train c.routes.ensures.routes c.in-Some.op).0 refl)
