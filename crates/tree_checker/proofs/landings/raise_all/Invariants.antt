-- bases are raised by the walks so far
use Rattle.std.proofs.Common.{take}
use Rattle.tree_checker.specs.KnownNodes.{node_here}
use Rattle.tree_checker.specs.TrainCosts.{AreRaised}
use Rattle.tree_checker.proofs.landings.raise_all.Given as goal

abbrev pub invariant-loop-walk : goal.invariant-loop-walk
invariant-loop-walk l = AreRaised (node_here l.here) l.train (take l.walk-index l.walks) l.fn.bases.items l.bases.items
