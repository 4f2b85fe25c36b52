use Rattle.std.proofs.Common.{◌-◌, ◌*◌, ◌<◌, ◌≤◌}
use Rattle.least_bounds.specs.Tournaments.{bound_at, LiesBelow}
use Rattle.least_bounds.proofs.tournament.find_below.Given as goal

abbrev pub invariant-loop-node : goal.invariant-loop-node
invariant-loop-node l = record {
  some : 1 ≤ l.node;
  inside : l.node < 2 * l.room;
  below : LiesBelow (bound_at l.nodes l.node) l.limit;
}

abbrev pub decreases-loop-node : goal.decreases-loop-node
decreases-loop-node l = l.room - l.node
