use Rattle.dispatch_core.proofs.Fallen.{AreListed}
use Rattle.dispatch_core.proofs.settling.failing.Given as goal

abbrev pub invariant-loop-number : goal.invariant-loop-number
invariant-loop-number l = AreListed l.problem l.fixings l.nodes l.number l.failing.items
