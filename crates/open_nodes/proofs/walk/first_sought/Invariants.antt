use Rattle.std.proofs.Common.{◌-◌, ℕ, length}
use Rattle.std.specs.Prelude.{Option}
use Rattle.open_nodes.specs.Preorder.{IsFirstSought, order, preorder}
use Rattle.open_nodes.proofs.walk.first_sought.Given as goal

abbrev pub invariant-loop : goal.invariant-loop
invariant-loop l = (found : Option (ℕ × ℕ)) → IsFirstSought l.places l.best l.edition (order l.at (length l.places - l.counter) l.places) found
    → IsFirstSought l.places l.best l.edition (preorder l.places) found
