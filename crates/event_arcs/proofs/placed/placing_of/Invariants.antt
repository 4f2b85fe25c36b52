-- the trains so far have their routes
use Rattle.std.proofs.Common.{◌≡◌, ◌≤◌, List, length}
use Rattle.disp_model.specs.declared.fixing.Fixing.{Fixing}
use Rattle.disp_model.specs.declared.decision.Decision.{Decision}
use Rattle.disp_model.specs.Numbers.{number_of}
use Rattle.disp_model.specs.Node.{node_at}
use Rattle.route_sets.specs.Sets.{op_of_train}
use Rattle.event_arcs.specs.Owned.{AreByTrain}
use Rattle.event_arcs.specs.Placed.{ArePlacedTo}
use Rattle.event_arcs.proofs.placed.placing_of.Given as goal

abbrev pub invariant-loop-train : goal.invariant-loop-train
invariant-loop-train l = record {
  within : l.train ≤ length l.owns;
  first_is : l.first ≡ number_of l.problem (op_of_train l.train 0);
  placed : (fixings : List Fixing) (decisions : List Decision) → AreByTrain fixings decisions l.owns → ArePlacedTo (node_at l.problem fixings decisions) l.train l.each.items;
}
