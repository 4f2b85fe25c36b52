use Rattle.std.proofs.Common.{◌≡◌, ◌<◌, ◌≤◌}
use Rattle.tree_dives.proofs.prefer.cheapest.Given as goal

abbrev pub invariant-loop-place : goal.invariant-loop-place
invariant-loop-place l = record {
  same : l.graph ≡ l.initial.graph;
  within : l.found ≤ l.place;
  there : 0 < l.place → l.found < l.place;
}
