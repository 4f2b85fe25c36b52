use Rattle.std.proofs.Common.{◌≡◌}
use Rattle.graph_tests.proofs.tests.orders.check_moves.Given as goal

abbrev pub invariant-loop-next : goal.invariant-loop-next
invariant-loop-next g l = l.graph.problem ≡ l.problem
