-- the operations that are left so far
use Rattle.tree_checker.proofs.Entered.{AreLeft}
use Rattle.tree_checker.proofs.entering.entered_of.Given as goal

abbrev pub invariant-loop-step : goal.invariant-loop-step
invariant-loop-step l = AreLeft l.operations l.known.order.items l.known.places.items l.known.demands.items l.bases l.known.entry l.step l.entered.items
