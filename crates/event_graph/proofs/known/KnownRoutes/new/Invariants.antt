use Rattle.std.proofs.Common.{All}
use Rattle.std.specs.Prelude.{IfSome}
use Rattle.disp_model.specs.declared.problem.Problem.{Problem}
use Rattle.event_graph.specs.Known.{AreOwnRoutes}
use Rattle.event_graph.proofs.known.KnownRoutes.new.Given as goal

abbrev pub invariant-loop : goal.invariant-loop
invariant-loop l = (problem : Problem) → All (λ slot. IfSome slot (AreOwnRoutes problem)) l.slots.items
