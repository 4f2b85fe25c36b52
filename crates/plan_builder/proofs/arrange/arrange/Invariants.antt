-- what is planned is arranged before what is left
use Rattle.std.proofs.Common.{◌≡◌, ◌+◌, ◌++◌, length}
use Rattle.std.specs.List.Sorted.{IsPermutation}
use Rattle.plan_builder.specs.Stops.{AreStopsLeft, AreStopsArranged}
use Rattle.plan_builder.proofs.arrange.arrange.Given as goal

abbrev pub invariant-loop : goal.invariant-loop
invariant-loop l = record {
  left : AreStopsLeft l.paths l.rest.items l.waiting.items;
  same : IsPermutation l.fn.stops.items (l.plan.items ++ l.rest.items);
  count : length l.rest.items + l.counter ≡ l.count;
  arranged : AreStopsArranged l.paths.arcs l.plan.items l.rest.items;
}
