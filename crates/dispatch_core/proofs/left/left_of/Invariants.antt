-- what is left of the nodes from here on, behind what is left so far, is what is left of all
use Rattle.dispatch_core.proofs.Leaving.{IsLeftFrom}
use Rattle.dispatch_core.proofs.left.left_of.Given as goal

abbrev pub invariant-loop-packed : goal.invariant-loop-packed
invariant-loop-packed l = IsLeftFrom l.problem l.fixings l.decisions l.nodes l.bounds l.packed-index l.pending.items l.left.nodes.items l.left.bounds.items
