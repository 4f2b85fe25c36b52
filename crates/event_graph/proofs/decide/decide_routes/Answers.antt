use Rattle.std.proofs.Common.{arith}
use Rattle.disp_model.specs.Node.{node_at}
use Rattle.event_graph.specs.Kept.{state_of}
use Rattle.event_graph.proofs.Training.{elsewhere_decides}
use Rattle.event_graph.proofs.decide.decide_routes.Goals as goal

pub returns-then-train-len-clause-decided : goal.returns-then-train-len-clause-decided
returns-then-train-len-clause-decided c fixings decisions may =
    elsewhere_decides (node_at c.args.problem.now fixings decisions) c.args.decision c.args.train (state_of c.args.parts.now) may.state c.requires.about (omega (arith, c.if-train-len.true, c.len.ensures))
