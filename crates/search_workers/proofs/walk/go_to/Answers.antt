use Rattle.std.proofs.Common.{◌∙◌, take, get_or, ap, subst}
use Rattle.disp_model.specs.Node.{Node, node_at, with_decision}
use Rattle.search_workers.specs.Walks.{Arrives}
use Rattle.search_workers.proofs.Moving.{refused_further}
use Rattle.search_workers.proofs.walk.go_to.Goals as goal

pub returns-in-Some-clause-at : goal.returns-in-Some-clause-at
returns-in-Some-clause-at c =
    refused_further c.args.graph.now.problem c.args.graph.now.fixings c.args.decisions.now c.loop-place.place _ c.loop-place-test.true c.loop-place.graph
    (c.loop-place.invariant.0 ∙ ap (λ (n : Node). node_at n.problem n.fixings (take c.loop-place.place c.args.decisions.now)) c.rewind_knowing.ensures.back) c.in-Some.leaf
    (subst (Arrives (with_decision c.loop-place.graph (get_or c.args.decisions.now c.loop-place.place _)) c.step.new.graph) c.in-Some.is c.in_ok-leaf.ensures.at)
