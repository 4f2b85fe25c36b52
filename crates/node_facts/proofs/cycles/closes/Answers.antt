use Rattle.std.proofs.Common.{refl}
use Rattle.std.proofs.lemmas.Bool.{false≢true}
use Rattle.disp_model.specs.Node.{node_at}
use Rattle.node_facts.proofs.Lengths.{iff_then, iff_back}
use Rattle.node_facts.proofs.Closing.{closes_more, closes_not, closes_last}
use Rattle.node_facts.proofs.cycles.closes.Goals as goal

pub returns-then-not-has_arc : goal.returns-then-not-has_arc
returns-then-not-has_arc c fixings are =
    let node = node_at c.args.problem.now fixings c.args.decisions.now in (
      λ h. absurd (false≢true h),
      λ h. absurd (closes_not node c.args.first c.loop-to.from c.args.rest.now c.loop-to.to-index _ c.loop-to-test.true (λ arc. false≢true ((c.if-not-has_arc.ensures fixings are).1 arc)) ((c.loop-to.invariant fixings are).0 h)),
    )

pub loop-to-preserved : goal.loop-to-preserved
loop-to-preserved c fixings are =
    let node = node_at c.args.problem.now fixings c.args.decisions.now in
    iff_then (c.loop-to.invariant fixings are) (closes_more node c.args.first c.loop-to.from c.args.rest.now c.loop-to.to-index _ c.loop-to-test.true ((c.if-not-has_arc.ensures fixings are).0 refl))

pub returns : goal.returns
returns c fixings are =
    let node = node_at c.args.problem.now fixings c.args.decisions.now in
    let p = c.has_arc-2.ensures fixings are in
    let last = closes_last node c.args.first c.loop-to.from c.args.rest.now c.loop-to.to-index c.loop-to-test.false in
    iff_then p (iff_back (iff_then (c.loop-to.invariant fixings are) last))
