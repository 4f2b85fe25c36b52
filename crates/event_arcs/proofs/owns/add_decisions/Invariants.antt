-- the decisions so far are added
use Rattle.std.proofs.Common.{◌≡◌, [], List, length, take}
use Rattle.disp_model.specs.declared.fixing.Fixing.{Fixing}
use Rattle.event_arcs.specs.Owned.{AreByTrain}
use Rattle.event_arcs.proofs.owns.add_decisions.Given as goal

abbrev pub invariant-loop-decision : goal.invariant-loop-decision
invariant-loop-decision l = record {
  long : length l.owns.items ≡ length l.initial.owns.items;
  own : (fixings : List Fixing) → AreByTrain fixings [] l.initial.owns.items → AreByTrain fixings (take l.decision-index l.decisions) l.owns.items;
}
