use Rattle.std.proofs.Common.{◌≡◌, map, take}
use Rattle.event_graph.proofs.opening.lowers.Given as goal

abbrev pub invariant-loop-window : goal.invariant-loop-window
invariant-loop-window l = l.lowers.items ≡ map (λ w. w.lower) (take l.window-index l.windows)
