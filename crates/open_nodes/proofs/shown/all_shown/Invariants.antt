use Rattle.std.proofs.Common.{◌≡◌, ◌-◌, ◌++◌, length}
use Rattle.open_nodes.specs.Preorder.{order, preorder}
use Rattle.open_nodes.specs.Shown.{all_shown}
use Rattle.open_nodes.proofs.shown.all_shown.Given as goal

abbrev pub invariant-loop : goal.invariant-loop
invariant-loop l = l.tree ++ all_shown l.places l.kept (order l.at (length l.places - l.counter) l.places) ≡ all_shown l.places l.kept (preorder l.places)
