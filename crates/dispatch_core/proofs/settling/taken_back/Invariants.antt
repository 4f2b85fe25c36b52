use Rattle.dispatch_core.proofs.TakingBack.{AreNoted}
use Rattle.dispatch_core.proofs.settling.taken_back.Given as goal

abbrev pub invariant-loop-change : goal.invariant-loop-change
invariant-loop-change l = AreNoted l.changes l.taken.items l.change-index
