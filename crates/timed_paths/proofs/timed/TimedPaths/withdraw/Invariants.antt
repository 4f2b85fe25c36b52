use Rattle.std.proofs.Common.{◌≡◌, ◌-◌, length, take}
use Rattle.timed_paths.proofs.timed.TimedPaths.withdraw.Given as goal

abbrev pub invariant-loop : goal.invariant-loop
invariant-loop l = (l.self-inside.paths.lowers ≡ l.initial.self-inside.paths.lowers) × (l.self-inside.paths.arcs ≡ take (length l.initial.self-inside.paths.arcs - l.counter) l.initial.self-inside.paths.arcs)
    × (l.self-inside.uppers.items ≡ l.initial.self-inside.uppers.items) × (l.self-inside.lates.items ≡ l.initial.self-inside.lates.items)
