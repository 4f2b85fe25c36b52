-- the successors so far that are kept
use Rattle.std.proofs.Common.{ℕ, take}
use Rattle.std.specs.Prelude.{Contains, ◌↔◌}
use Rattle.route_sets.specs.Sweeps.{IsKept}
use Rattle.route_sets.proofs.sweep.row_of.Given as goal

abbrev pub invariant-loop-next : goal.invariant-loop-next
invariant-loop-next l = (s : ℕ) → Contains l.row s ↔ (Contains (take l.next-index l.operation.next) s × IsKept l.ask l.held l.count s)
