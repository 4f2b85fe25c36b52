use Rattle.std.proofs.Common.{◌∙◌, refl}
use Rattle.event_arcs.proofs.Owning.{next_decision}
use Rattle.event_arcs.proofs.owns.add_decisions.Goals as goal

pub loop-decision-preserved : goal.loop-decision-preserved
loop-decision-preserved c = record {
  long = c.in_ok-add_decision.ensures.long ∙ c.loop-decision.invariant.long;
  own = λ fixings are. next_decision fixings c.args.decisions.now c.loop-decision.decision-index _ _ c.loop-decision.owns.items c.add_decision.new.owns.items c.loop-decision-test.true refl (c.loop-decision.invariant.own fixings are) c.in_ok-add_decision.ensures;
}
