-- what the fixings and the decisions so far ask
use Rattle.std.proofs.Common.{take}
use Rattle.std.specs.Prelude.{All}
use Rattle.disp_model.specs.Routes.{AgreesWithFixing, AgreesWithDecision}
use Rattle.node_facts.specs.Demands.{AreDemandsFor}
use Rattle.node_facts.proofs.demands.demands_of.Given as goal

abbrev pub invariant-loop-decision : goal.invariant-loop-decision
invariant-loop-decision l = AreDemandsFor (λ route. All (AgreesWithFixing l.train route) l.fixings × All (AgreesWithDecision l.train route) (take l.decision-index l.decisions)) l.demands.items
