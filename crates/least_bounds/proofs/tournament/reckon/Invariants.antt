use Rattle.std.proofs.Common.{◌≡◌, ◌*◌, ◌≤◌, drop, length}
use Rattle.least_bounds.specs.Tournaments.{AreLesserFrom}
use Rattle.least_bounds.proofs.tournament.reckon.Given as goal

abbrev pub invariant-loop-node : goal.invariant-loop-node
invariant-loop-node l = record {
  inner : AreLesserFrom l.nodes l.room l.node;
  places : drop l.room l.nodes ≡ drop l.room l.fn.nodes;
}
