use Rattle.std.proofs.Common.{◌<◌, length, get_or}
use Rattle.incremental_paths.proofs.Tracing.{IsTraced, AddsUp}
use Rattle.incremental_paths.proofs.back.walk_back.Given as goal

abbrev pub invariant-loop-before : goal.invariant-loop-before
invariant-loop-before l = record {
  within : l.at < length l.lowers;
  traced : (t : IsTraced l.arcs l.node l.at l.nodes.items) × AddsUp l.arcs l.lengths l.node l.at t.rest;
}

abbrev pub decreases-loop-before : goal.decreases-loop-before
decreases-loop-before l = get_or l.order l.at 0
