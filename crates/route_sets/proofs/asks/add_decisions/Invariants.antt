-- the asks take what the decisions so far ask
use Rattle.std.proofs.Common.{take}
use Rattle.std.specs.Prelude.{All}
use Rattle.disp_model.specs.Routes.{AgreesWithDecision}
use Rattle.route_sets.specs.Asks.{TakesAsks}
use Rattle.route_sets.proofs.asks.add_decisions.Given as goal

abbrev pub invariant-loop-decision : goal.invariant-loop-decision
invariant-loop-decision l = TakesAsks (λ route. All (AgreesWithDecision l.train route) (take l.decision-index l.decisions)) l.initial.asks.items l.asks.items
