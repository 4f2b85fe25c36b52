use Rattle.std.proofs.Common.{◌+◌, ◌/◌, length}
use Rattle.open_nodes.specs.Blocks.{AreBlockLeastBut}
use Rattle.open_nodes.proofs.blocks.reckon.Given as goal

abbrev pub invariant-loop-block : goal.invariant-loop-block
invariant-loop-block l = AreBlockLeastBut l.pool l.places l.bounds l.home l.block (length l.places / 64 + 1)
