use Rattle.solution_text.proofs.Joined.{more_events}
use Rattle.solution_text.proofs.write.push_next_events.Goals as goal

pub loop-event-preserved : goal.loop-event-preserved
loop-event-preserved c = more_events c.args.plan.now c.loop-event.event-index _ c.loop-event-test.true c.loop-event.invariant c.in_ok-push_text.ensures.ok c.in_ok-push_event.ensures.ok
