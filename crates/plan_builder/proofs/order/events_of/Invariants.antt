-- the events so far
use Rattle.std.proofs.Common.{◌≡◌, take, map}
use Rattle.plan_builder.proofs.order.events_of.Given as goal

abbrev pub invariant-loop-stop : goal.invariant-loop-stop
invariant-loop-stop l = l.events.items ≡ map (λ s. s.event) (take l.stop-index l.stops)
