-- Operations whose orders ask no more than before, and the arcs of the orders of the others.
use Rattle.std.specs.Prelude.{ℕ, ◌<◌, List, All, Contains, ◌⊎◌}
use Rattle.disp_model.specs.declared.train.Op.{Op}
use Rattle.disp_model.specs.Node.{Node}
use Rattle.disp_model.specs.Routes.{IsForced}
use Rattle.disp_model.specs.Arcs.{Conflicts, GoesTo}
use Rattle.incremental_paths.specs.declared.arc.Arc.{Arc}
use Rattle.route_sets.specs.Sets.{op_of_train}
use Rattle.event_arcs.specs.Listed.{IsArcOf}
use Rattle.event_arcs.specs.Ordering.{LeadsAsOrdered}
use Rattle.event_graph.specs.declared.orders.Pair.{Pair}
use Rattle.event_graph.specs.Pairs.{Touches, IsDecidedAt}
use Rattle.disp_model.specs.Numbers.{number_of}

-- where the operation is forced now it was before, and what follows it now on each route did so
-- before
pub record StaysAs (before node : Node) (o : Op) : Type 0 where
  pub forced : IsForced node o → IsForced before o
  pub next : (n : Op) → IsForced node o → GoesTo node o n → GoesTo before o n

-- of the first so many operations of the train, each stays as it was, or the arcs of its orders are
-- added
pub record AddsChanged (before node : Node) (t count : ℕ) (pairs : List Pair) (old new : List Arc)
    : Type 0 where
  pub kept : (arc : Arc) → Contains old arc → Contains new arc
  pub sound : All (IsDecidedAt node) pairs → All (IsArcOf node) old → All (IsArcOf node) new
  pub each : (o : ℕ) → o < count → StaysAs before node (op_of_train t o) ⊎
      ((pair : Pair) → Contains pairs pair → Touches pair (number_of node.problem (op_of_train t o))
      → IsForced node pair.first → IsForced node pair.second
      → Conflicts node.problem pair.first pair.second
      → LeadsAsOrdered node new pair.first pair.second)
