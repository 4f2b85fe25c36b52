-- the asks take what the fixings so far ask
use Rattle.std.proofs.Common.{take}
use Rattle.std.specs.Prelude.{All}
use Rattle.disp_model.specs.Routes.{AgreesWithFixing}
use Rattle.route_sets.specs.Asks.{TakesAsks}
use Rattle.route_sets.proofs.asks.add_fixings.Given as goal

abbrev pub invariant-loop-fixing : goal.invariant-loop-fixing
invariant-loop-fixing l = TakesAsks (λ route. All (AgreesWithFixing l.train route) (take l.fixing-index l.fixings)) l.initial.asks.items l.asks.items
