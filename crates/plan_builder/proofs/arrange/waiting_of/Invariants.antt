-- marked are the nodes of the stops so far
use Rattle.std.proofs.Common.{◌≡◌, length, take}
use Rattle.plan_builder.specs.Stops.{AreMarkedNodes}
use Rattle.plan_builder.proofs.arrange.waiting_of.Given as goal

abbrev pub invariant-loop-stop : goal.invariant-loop-stop
invariant-loop-stop l = record {
  size : length l.waiting.items ≡ l.nodes;
  marks : AreMarkedNodes (take l.stop-index l.stops) l.waiting.items;
}
