use Rattle.std.proofs.Common.{◌≡◌, ◌<◌, ◌≤◌, true, length, get_or}
use Rattle.incremental_paths.specs.Ordered.{is_marked}
use Rattle.incremental_paths.proofs.Tracing.{IsTraced}
use Rattle.incremental_paths.proofs.back.way_back.Given as goal

abbrev pub invariant-loop-at : goal.invariant-loop-at
invariant-loop-at l = record {
  within : l.at < length l.order;
  below : get_or l.order l.at 0 ≤ get_or l.order l.to 0;
  marked : is_marked l.marks l.at ≡ true;
  traced : IsTraced l.arcs l.to l.at l.way.items;
}

abbrev pub decreases-loop-at : goal.decreases-loop-at
decreases-loop-at l = get_or l.order l.at 0
