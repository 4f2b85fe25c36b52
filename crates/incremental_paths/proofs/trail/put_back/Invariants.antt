use Rattle.std.proofs.Common.{◌≡◌, ◌≤◌, drop}
use Rattle.incremental_paths.specs.Spread.{restored}
use Rattle.incremental_paths.proofs.trail.put_back.Given as goal

abbrev pub invariant-loop-i : goal.invariant-loop-i
invariant-loop-i l = record { low : l.start ≤ l.i; lengths : l.lengths ≡ restored l.initial.lengths (drop l.i l.trail.items) }
