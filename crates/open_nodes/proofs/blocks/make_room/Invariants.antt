use Rattle.std.proofs.Common.{◌≤◌, length}
use Rattle.open_nodes.specs.Blocks.{HaveSameBounds}
use Rattle.open_nodes.proofs.blocks.make_room.Given as goal

abbrev pub invariant-loop : goal.invariant-loop
invariant-loop l = record {
  same : HaveSameBounds l.fn.bounds l.bounds;
  long : l.counter ≤ length l.bounds;
}
