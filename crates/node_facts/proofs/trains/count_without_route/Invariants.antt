-- how many of those so far have no allowed route
use Rattle.std.proofs.Common.{◌≡◌, ◌≤◌, take}
use Rattle.std.specs.Prelude.{sum_by}
use Rattle.node_facts.specs.Known.{without_route}
use Rattle.node_facts.proofs.trains.count_without_route.Given as goal

abbrev pub invariant-loop-known : goal.invariant-loop-known
invariant-loop-known l = (l.count ≡ sum_by without_route (take l.known-index l.trains)) × (l.count ≤ l.known-index)
