-- the trains so far have their arcs
use Rattle.std.proofs.Common.{◌≤◌, List, length}
use Rattle.disp_model.specs.declared.fixing.Fixing.{Fixing}
use Rattle.disp_model.specs.declared.decision.Decision.{Decision}
use Rattle.disp_model.specs.Node.{node_at}
use Rattle.event_arcs.specs.Placed.{ArePlaced}
use Rattle.event_arcs.specs.Chained.{AddsChains}
use Rattle.event_arcs.proofs.chains.add_chains.Given as goal

abbrev pub invariant-loop-train : goal.invariant-loop-train
invariant-loop-train l = record {
  within : l.train ≤ length l.each;
  adds : (fixings : List Fixing) (decisions : List Decision) → ArePlaced (node_at l.problem fixings decisions) l.each
      → AddsChains (node_at l.problem fixings decisions) l.train l.initial.arcs.items l.arcs.items;
}
