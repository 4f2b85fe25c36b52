-- the arcs so far, and what is left
use Rattle.std.proofs.Common.{List, drop}
use Rattle.std.specs.Prelude.{◌↔◌}
use Rattle.disp_model.specs.declared.fixing.Fixing.{Fixing}
use Rattle.disp_model.specs.Node.{node_at}
use Rattle.disp_model.specs.Walks.{ClosesTo}
use Rattle.node_facts.specs.Orders.{AreKnown}
use Rattle.node_facts.proofs.cycles.closes.Given as goal

abbrev pub invariant-loop-to : goal.invariant-loop-to
invariant-loop-to l =
    (fixings : List Fixing) → AreKnown (node_at l.problem fixings l.decisions) l.trains
    → ClosesTo (node_at l.problem fixings l.decisions) l.first l.fn.second l.rest ↔ ClosesTo (node_at l.problem fixings l.decisions) l.first l.from (drop l.to-index l.rest)
