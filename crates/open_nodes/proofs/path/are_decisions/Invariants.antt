use Rattle.open_nodes.proofs.Paths.{Compares}
use Rattle.open_nodes.proofs.path.are_decisions.Given as goal

abbrev pub invariant-loop-k : goal.invariant-loop-k
invariant-loop-k l = Compares l.places l.number l.decisions l.k l.at
