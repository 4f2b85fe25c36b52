use Rattle.std.proofs.Common.{◌≡◌, map, take}
use Rattle.event_graph.specs.Late.{open_until}
use Rattle.event_graph.proofs.opening.uppers.Given as goal

abbrev pub invariant-loop-window : goal.invariant-loop-window
invariant-loop-window l = l.uppers.items ≡ map open_until (take l.window-index l.windows)
