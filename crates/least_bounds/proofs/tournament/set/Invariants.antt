use Rattle.std.proofs.Common.{◌≡◌, ◌*◌, ◌<◌, ◌≤◌, drop, length, set}
use Rattle.least_bounds.specs.Tournaments.{AreLesserBut}
use Rattle.least_bounds.proofs.tournament.set.Given as goal

-- each inner node but the next to be written is the lesser of the two below it
abbrev pub invariant-loop-node : goal.invariant-loop-node
invariant-loop-node l = record {
  inner : AreLesserBut l.nodes l.room l.node;
  inside : l.node < l.room;
  begins : l.room ≤ length l.nodes;
  ends : length l.nodes ≤ 2 * l.room;
  places : drop l.room l.nodes ≡ set (drop l.room l.fn.nodes) l.place l.fn.bound;
}

abbrev pub decreases-loop-node : goal.decreases-loop-node
decreases-loop-node l = l.node
