use Rattle.std.proofs.Common.{◌≡◌, [], length}
use Rattle.event_arcs.specs.Owned.{AreByTrain}
use Rattle.event_arcs.proofs.owns.none_yet.Given as goal

abbrev pub invariant-loop-train : goal.invariant-loop-train
invariant-loop-train l = record { long : length l.owns.items ≡ l._train; none : AreByTrain [] [] l.owns.items }
