-- What is kept of a node, and what a decision adds to it.
use Rattle.std.specs.Prelude.{◌≡◌, ℕ, ◌-◌, ◌<◌, ◌≤◌, List, ◌++◌, All, Contains, Some, length, take, slice_set, ◌⊎◌}
use Rattle.disp_model.specs.declared.train.Op.{Op}
use Rattle.disp_model.specs.declared.problem.Problem.{Problem}
use Rattle.disp_model.specs.declared.decision.Decision.{Decision}
use Rattle.disp_model.specs.declared.decision.Decision.TheVariants.{First}
use Rattle.disp_model.specs.Numbers.{number_of}
use Rattle.disp_model.specs.Node.{Node, with_decision}
use Rattle.disp_model.specs.Routes.{IsForced}
use Rattle.disp_model.specs.Walks.{HasCycle}
use Rattle.disp_model.specs.Arcs.{Conflicts, IsTrainArc, GoesTo}
use Rattle.incremental_paths.specs.declared.arc.Arc.{Arc}
use Rattle.event_arcs.specs.Listed.{IsArcOf, AreArcsOf}
use Rattle.event_windows.specs.Operations.{HasOperation}
use Rattle.event_arcs.specs.Chained.{LeadsAlong}
use Rattle.event_arcs.specs.Ordering.{LeadsAsOrdered}
use Rattle.event_arcs.specs.Owned.{train_of_decision, AreByTrain}
use Rattle.event_arcs.specs.Placed.{ArePlaced}
use Rattle.event_arcs.specs.declared.owns.Own.{Own}
use Rattle.event_arcs.specs.declared.placed.Placed.{Placed}
use Rattle.event_graph.specs.declared.orders.Pair.{Pair}
use Rattle.event_graph.specs.declared.changes.Change.{Change}
use Rattle.event_graph.specs.declared.changes.Change.TheVariants.{Nothing, Order, Train}
use Rattle.event_graph.specs.Pairs.{IsDecidedAt}

-- ---- orders

abbrev pub pair_of : Problem → Op → Op → Pair
pair_of problem a b = record {
  first = a;
  second = b;
  from = number_of problem a;
  to = number_of problem b;
}

-- the orders that are decided of operations that there are
pub record AreOrdersOf (node : Node) (pairs : List Pair) : Type 0 where
  pub decided : All (IsDecidedAt node) pairs
  pub listed : (a b : Op) → Contains node.decisions (First a b) → HasOperation node.problem a
      → HasOperation node.problem b → Contains pairs (pair_of node.problem a b)

-- ---- what a decision about the routes of a train adds

-- an order of two operations that are forced now was so before, with what follows the first; or the
-- new arcs lead as it asks
abbrev pub IsOldOrNew : Node → Decision → List Arc → Op → Op → Type 0
IsOldOrNew node d new a b =
    (IsForced node a × IsForced node b × ((n : Op) → GoesTo (with_decision node d) a n
    → GoesTo node a n)) ⊎ LeadsAsOrdered (with_decision node d) new a b

-- behind a list that stands for the node before, the arcs of the train, and those of orders that
-- have changed
pub record AddsTrain (node : Node) (d : Decision) (t : ℕ) (old new : List Arc) : Type 0 where
  pub about : train_of_decision d ≡ Some t
  pub sound : All (IsArcOf (with_decision node d)) new
  pub chained : (u v : Op) (sum : ℕ) → u.train ≡ t → IsForced (with_decision node d) u
      → IsForced (with_decision node d) v → IsTrainArc (with_decision node d) u v sum
      → LeadsAlong node (old ++ new) u v sum
  pub ordered : (a b : Op) → Contains node.decisions (First a b) → IsForced (with_decision node d) a
      → IsForced (with_decision node d) b → Conflicts node.problem a b → IsOldOrNew node d new a b

-- ---- what is kept

pub record GraphState : Type 0 where
  pub owns : List Own
  pub each : List Placed
  pub pairs : List Pair
  pub arcs : List Arc

-- what is kept stands for the node
pub record IsStateAt (node : Node) (state : GraphState) : Type 0 where
  pub owns_long : length state.owns ≡ length node.problem.trains
  pub own : AreByTrain node.fixings node.decisions state.owns
  pub placed : ArePlaced node state.each
  pub orders : AreOrdersOf node state.pairs
  pub arcs : AreArcsOf node state.arcs
  pub no_cycle : HasCycle node → ⊥

-- ---- what a change has replaced

-- the last so many are taken away
abbrev pub without_last_of : {X : Type 0} → ℕ → List X → List X
without_last_of n xs = take (length xs - n) xs

abbrev pub restored_state : Change → GraphState → GraphState
restored_state Nothing state = state
restored_state (Order arcs) state = record {
  owns = state.owns;
  each = state.each;
  pairs = without_last_of 1 state.pairs;
  arcs = without_last_of arcs state.arcs;
}
restored_state (Train t own placed arcs) state =
    record {
      owns = slice_set state.owns t own;
      each = slice_set state.each t placed;
      pairs = state.pairs;
      arcs = without_last_of arcs state.arcs;
    }

-- what the change names is there
abbrev pub MayRestore : Change → GraphState → Type 0
MayRestore Nothing state = Unit {0}
MayRestore (Order arcs) state = (0 < length state.pairs) × (arcs ≤ length state.arcs)
MayRestore (Train t own placed arcs) state = (t < length state.owns) × (t < length state.each)
    × (arcs ≤ length state.arcs)
