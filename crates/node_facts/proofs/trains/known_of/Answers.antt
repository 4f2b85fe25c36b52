use Rattle.disp_model.specs.Node.{node_at}
use Rattle.node_facts.proofs.Lengths.{known_more}
use Rattle.node_facts.proofs.trains.known_of.Goals as goal

pub loop-train-preserved : goal.loop-train-preserved
loop-train-preserved c =
    rw c.in_ok-push.ensures.items
    (known_more (node_at c.args.problem.now c.args.fixings.now c.args.decisions.now) c.loop-train.trains.items c.loop-train.train c.in_ok-known.known c.loop-train.invariant c.in_ok-known.ensures)
