-- nothing is in the lists so far
use Rattle.std.proofs.Common.{[]}
use Rattle.decision_paths.specs.Kept.{AreRoutesByTrain}
use Rattle.decision_paths.proofs.routes.lists_of.Given as goal

abbrev pub invariant-loop : goal.invariant-loop
invariant-loop l = AreRoutesByTrain [] l.lists.items
