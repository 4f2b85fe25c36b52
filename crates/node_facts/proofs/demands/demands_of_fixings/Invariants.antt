-- what the fixings so far ask
use Rattle.std.proofs.Common.{take}
use Rattle.std.specs.Prelude.{All}
use Rattle.disp_model.specs.Routes.{AgreesWithFixing}
use Rattle.node_facts.specs.Demands.{AreDemandsFor}
use Rattle.node_facts.proofs.demands.demands_of_fixings.Given as goal

abbrev pub invariant-loop-fixing : goal.invariant-loop-fixing
invariant-loop-fixing l = AreDemandsFor (λ route. Unit {0} × All (AgreesWithFixing l.train route) (take l.fixing-index l.fixings)) l.demands.items
