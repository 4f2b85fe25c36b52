-- the children so far, the last ones, stand first
use Rattle.std.proofs.Common.{◌≡◌, ◌++◌, drop, reverse}
use Rattle.tree_checker.specs.Places.{places_at}
use Rattle.tree_checker.proofs.places.open.Given as goal

abbrev pub invariant-loop-left : goal.invariant-loop-left
invariant-loop-left l = reverse l.places.items ≡ places_at l.depth (drop l.left l.children) ++ reverse l.initial.places.items
