use Rattle.std.proofs.Common.{arith}
use Rattle.std.proofs.lemmas.Option.{none-some}
use Rattle.disp_model.specs.Node.{node_at}
use Rattle.node_facts.proofs.Lengths.{walk_more, walk_stuck, iff_then}
use Rattle.node_facts.proofs.walks.walks_on.Goals as goal

pub returns-in_default : goal.returns-in_default
returns-in_default c fixings are n =
    let node = node_at c.args.problem.now fixings c.args.decisions.now in (
      λ e. absurd (none-some n e),
      λ walk. absurd (walk_stuck node c.loop-to.from c.loop-to.total c.args.rest.now c.loop-to.to-index _ c.longest_arc.result n c.loop-to-test.true (c.longest_arc.ensures fixings are) c.in_default.not-Some ((c.loop-to.invariant.1 fixings are n).0 walk)),
    )

pub loop-to-preserved : goal.loop-to-preserved
loop-to-preserved c = (
  omega (arith, c.loop-to.invariant.0, c.further-total.ensures.small),
  λ fixings are n.
      let node = node_at c.args.problem.now fixings c.args.decisions.now in
      rw c.further-total.ensures.sum
      (iff_then (c.loop-to.invariant.1 fixings are n)
      (walk_more node c.loop-to.from c.loop-to.total c.args.rest.now c.loop-to.to-index _ c.longest_arc.result c.in-Some.length n c.loop-to-test.true (c.longest_arc.ensures fixings are) c.in-Some.is)),
)
