-- the fixings so far are added
use Rattle.std.proofs.Common.{◌≡◌, [], length, take}
use Rattle.event_arcs.specs.Owned.{AreByTrain}
use Rattle.event_arcs.proofs.owns.add_fixings.Given as goal

abbrev pub invariant-loop-fixing : goal.invariant-loop-fixing
invariant-loop-fixing l = record {
  long : length l.owns.items ≡ length l.initial.owns.items;
  own : AreByTrain [] [] l.initial.owns.items → AreByTrain (take l.fixing-index l.fixings) [] l.owns.items;
}
