use Rattle.std.proofs.Common.{◌≡◌, ◌+◌, length, take}
use Rattle.incremental_paths.proofs.trail.shorten.Given as goal

abbrev pub invariant-loop : goal.invariant-loop
invariant-loop l = record { size : l.threads.size ≡ l.fn.threads.size; long : length l.threads.keys + l.counter ≡ l.from + l.left; keys : l.threads.keys ≡ take (length l.threads.keys) l.fn.threads.keys }
