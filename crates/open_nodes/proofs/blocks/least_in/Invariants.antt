use Rattle.std.proofs.Common.{◌*◌}
use Rattle.open_nodes.specs.Blocks.{IsRangeLeast}
use Rattle.open_nodes.proofs.blocks.least_in.Given as goal

abbrev pub invariant-loop-number : goal.invariant-loop-number
invariant-loop-number l = IsRangeLeast l.pool l.places (64 * l.block) l.number l.least
