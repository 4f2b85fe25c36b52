use Rattle.std.proofs.Common.{◌≡◌, ◌++◌, take}
use Rattle.event_graph.proofs.paths.add_all.Given as goal

abbrev pub invariant-loop-count : goal.invariant-loop-count
invariant-loop-count l = (l.paths.lowers ≡ l.initial.paths.lowers) × (l.paths.uppers ≡ l.initial.paths.uppers) × (l.paths.arcs ≡ l.initial.paths.arcs ++ take l.count l.arcs)
